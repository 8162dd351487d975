use Rattle.std.proofs.Common.{◌⊎◌, Contains, subst}
use Rattle.dom_io.specs.Held.{IsAbsent}
use Rattle.dom_io.specs.Memory.{ShelfData}
use Rattle.dom_io.proofs.memory_shelf.MemoryShelfShelf.fetch.Goals as goal

pub returns-in_ok-record-in-Err-Failed-clause-failed_only : goal.returns-in_ok-record-in-Err-Failed-clause-failed_only
returns-in_ok-record-in-Err-Failed-clause-failed_only c = λ _.
    subst (λ (v : ShelfData). Contains v.fails c.saturating_add-self-inside.result ⊎ IsAbsent v.files c.args.name.now) c.self.view_is
    (c.in-Err-Failed.ensures.failed_only (let is = c.in-Err-Failed.field-0-is in cc))
