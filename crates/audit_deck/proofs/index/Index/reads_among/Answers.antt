use Rattle.std.specs.Prelude.{Some, slice_get}
use Rattle.std.proofs.Common.{[], get_or, subst, sym, ℕ, ◌+◌, ◌++◌, ◌∷◌, ◌≡◌}
use Rattle.std.proofs.lemmas.Option.{slice_get-get_or}
use Rattle.audit_deck.specs.Loops.{IsReadAmong, IsReadAt}
use Rattle.audit_deck.specs.Walks.{MeetsThose}
use Rattle.audit_deck.proofs.Meets.{Upto, meets_nothing, upto_all, upto_more}
use Rattle.audit_deck.proofs.ReadNets.{has_those, meets_pushed, one_read}
use Rattle.audit_deck.proofs.index.Index.reads_among.Goals as goal
use Rattle.audit_deck.proofs.index.Index.reads_among.Goals.{in-Some+in_ok-push, in_default}

pub loop-place-preserved : goal.loop-place-preserved
loop-place-preserved c =
    let ds = c.args.self.now.devices in
    let Q = IsReadAt ds c.args.roles in
    let l = c.args.places.now in
    let i = c.loop-place.place-index in
    let p : ℕ = get_or l i 0 in
    let at : slice_get l i ≡ Some p = slice_get-get_or l i 0 c.loop-place-test.true in
    let reads = c.loop-place.reads.items in
    elim c.match-read_at.branch [
      | in-Some+in_ok-push w ↦
          let y = w.in-Some.y in
          let only = λ (m : ℕ) (r : Q p m). one_read ds c.args.roles c.args.self.now.nets c.requires.fronts c.requires.outputs p m y r w.in-Some.ensures.some in
          subst (λ (v : _). MeetsThose (Upto Q l (i + 1)) [] v.items) (sym w.reads-is)
          (subst (MeetsThose (Upto Q l (i + 1)) []) (sym w.in_ok-push.ensures.items)
          (upto_more Q l i p [] reads (reads ++ y ∷ []) at c.loop-place.invariant (meets_pushed (Q p) reads y w.in-Some.ensures.some only)))
      | in_default w ↦
          subst (λ (v : _). MeetsThose (Upto Q l (i + 1)) [] v.items) (sym w.reads-is)
          (upto_more Q l i p [] reads reads at c.loop-place.invariant (meets_nothing (Q p) reads w.in_default.ensures.none))
    ]

pub returns : goal.returns
returns c =
    let ds = c.args.self.now.devices in
    let l = c.args.places.now in
    has_those (IsReadAmong ds c.args.roles l) c.loop-place.reads.items
    (upto_all (IsReadAt ds c.args.roles) l c.loop-place.place-index (IsReadAmong ds c.args.roles l) [] c.loop-place.reads.items c.loop-place-test.false
    c.loop-place.invariant (λ m j p at has. (p, (j, at), has)) (λ m (p, met, has). (met.0, p, met.1, has)))
