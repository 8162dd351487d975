use Rattle.dom_io.proofs.sure_shelf.SureShelfShelf.fetch.Goals as goal

pub unwrap-bytes-requires : goal.unwrap-bytes-requires
unwrap-bytes-requires c =
    let same = c.self.view_is in
    let value = c.deref.ensures.value in
    let holds = c.requires.holds in
    let found = c.find.ensures.found in cc
