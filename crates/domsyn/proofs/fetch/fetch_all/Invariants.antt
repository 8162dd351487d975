use Rattle.std.proofs.Common.{◌≡◌, ◌≤◌, ◌↔◌, ℕ, List, map, take}
use Rattle.dom_io.specs.Asked.{HasAsked}
use Rattle.domsyn.specs.Fetches.{AreFiles, all_given}
use Rattle.domsyn.proofs.fetch.fetch_all.Given as goal

abbrev pub invariant-loop-name : goal.invariant-loop-name
invariant-loop-name g l = record {
  read : AreFiles (g.S.Shelf.files l.fn.shelf) (map (λ name. name.now) (take l.name-index l.fn.names)) (map (λ v. v.items) l.files.items);
  asked : HasAsked (g.S.Shelf.asked l.fn.shelf) (g.S.Shelf.asked l.shelf)
      (all_given (map (λ name. name.now) (take l.name-index l.fn.names)) (map (λ v. v.items) l.files.items));
  same_files : g.S.Shelf.files l.shelf ≡ g.S.Shelf.files l.fn.shelf;
  same_names : (name : List ℕ) → g.S.Shelf.may_ask l.shelf name ↔ g.S.Shelf.may_ask l.fn.shelf name;
  later : g.S.Shelf.faults l.fn.shelf ≤ g.S.Shelf.faults l.shelf;
  untouched : l.name-index ≡ 0 → l.shelf ≡ l.fn.shelf;
}
