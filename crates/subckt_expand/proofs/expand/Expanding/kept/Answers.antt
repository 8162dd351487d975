use Rattle.std.proofs.Common.{◌≡◌, ◌∙◌, [], ℕ, List, Option, Some, Vec, IfSome, map, slice_get, slice_index_or, ap, subst}
use Rattle.std.specs.declared.alloc.Global.{Global}
use Rattle.subckt_expand.specs.Frames.{ExpandingData, IsExpanding}
use Rattle.subckt_expand.proofs.Kept.{kept_is}
use Rattle.subckt_expand.proofs.expand.Expanding.kept.Goals as goal

pub returns : goal.returns
returns c =
    let items : Vec (Option ℕ) Global → List (Option ℕ) = λ n. n.items in
    let is = subst IsExpanding c.self.view_is c.self.invariant in
    let rows = ap (map items) c.as_slice.ensures.value ∙ ap (λ (v : ExpandingData). v.numbers) c.self.view_is in
    kept_is c.args.self.now is c.args.level c.args.slot c.row_number.result c.requires
    (subst (λ l. IfSome c.row_number.result (λ number. slice_get (slice_index_or l c.args.level []) c.args.slot ≡ Some (Some number))) rows c.row_number.ensures)
