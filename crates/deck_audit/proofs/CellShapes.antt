-- Two trees of one cell have the same links, so they are equally wide and high.
use Rattle.std.proofs.Common.{List, arith, inl, inr, subst, sym, ℕ, ◌∙◌, ◌≡◌, ◌≤◌}
use Rattle.deck.specs.Paths.{Ends}
use Rattle.deck.specs.PortLayout.{source_count}
use Rattle.deck.specs.declared.device.Device.{Device}
use Rattle.deck.specs.declared.role.Roles.{Roles}
use Rattle.sp_network.specs.Tree.{Tree, leaves}
use Rattle.port_runs.specs.Periods.{vss_port}
use Rattle.sp_reduction.specs.Networks.{Between, Has, Link}
use Rattle.sp_reduction.proofs.OneShape.{same_shape}
use Rattle.deck_audit.specs.CellShapes.{CellsHaveOneShape}
use Rattle.deck_audit.specs.Rules.{HasTree}
use Rattle.deck_audit.specs.Words.{IsFree, Reached, StandsAt, here, step}
use Rattle.deck_audit.proofs.CellTrees.{one_device}
use Rattle.switch_model.proofs.Searches.{ends_at, other_at}

module _ (ds : List Device) (roles : Roles) (x clock bottom bottom' : ℕ) (tree tree' : Tree Link) (free : IsFree roles x)
    (h : HasTree ds roles x clock bottom tree) (h' : HasTree ds roles x clock bottom' tree') where
  -- the foot of one is that of the other
  foot_same : h'.foot ≡ h.foot
  foot_same =
      h.one_foot h'.foot h'.foot_device vss_port h'.foot_there
      ((h'.foot_is).0, bottom', h'.bottom_reached, ends_at h'.foot_device bottom' vss_port (h'.foot_is).2)
      (other_at h'.foot_device bottom' vss_port (h'.foot_is).2) vss_low
    where
      vss_low : IsFree roles vss_port → ⊥
      vss_low l = omega (arith, l)

  device_same : h'.foot_device ≡ h.foot_device
  device_same = one_device ds h.foot h'.foot_device h.foot_device (subst (λ p. StandsAt ds p h'.foot_device) foot_same h'.foot_there) h.foot_there

  reached_high : (n : ℕ) → Reached ds roles x n → source_count roles ≤ n
  reached_high n here = free
  reached_high n (step p d r at k e f) = f

  bottom_same : bottom ≡ bottom'
  bottom_same = one (h.foot_is).2 (subst (λ (d : Device). Ends d bottom' vss_port) device_same (h'.foot_is).2)
    where
      one : Ends h.foot_device bottom vss_port → Ends h.foot_device bottom' vss_port → bottom ≡ bottom'
      one (inl a) (inl b) = sym a.0 ∙ b.0
      one (inr a) (inr b) = sym a.0 ∙ b.0
      one (inl a) (inr b) = absurd (omega (arith, sym a.0 ∙ b.1, reached_high bottom h.bottom_reached))
      one (inr a) (inl b) = absurd (omega (arith, sym a.0 ∙ b.1, reached_high bottom h.bottom_reached))

  -- the links of one are those of the other
  to : (e : Link) → Has tree e → Has tree' e
  to e c = let l = (h.links_are e).0 c in (h'.links_are e).1 (l.0, l.1, l.2, l.3, (λ z. l.4 (z ∙ foot_same)), l.5)

  back : (e : Link) → Has tree' e → Has tree e
  back e c = let l = (h'.links_are e).0 c in (h.links_are e).1 (l.0, l.1, l.2, l.3, (λ z. l.4 (z ∙ sym foot_same)), l.5)

pub cells_have_one_shape : CellsHaveOneShape
cells_have_one_shape ds roles x clock bottom bottom' tree tree' free h h' =
    let same = bottom_same ds roles x clock bottom bottom' tree tree' free h h' in
    let between : Between tree' x bottom = subst (λ b. Between tree' x b) (sym same) h'.between in
    let shape = same_shape (leaves tree) tree tree' x bottom (omega arith) h.between between
    (λ e. (to ds roles x clock bottom bottom' tree tree' free h h' e, back ds roles x clock bottom bottom' tree tree' free h h' e)) in
    (same, shape.0, shape.1)
