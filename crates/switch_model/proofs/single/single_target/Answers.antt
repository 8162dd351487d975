use Rattle.std.proofs.Common.{arith, ap, ◌∙◌, ◌≡◌, sym, subst, refl, true, false, [], ◌∷◌, ℕ}
use Rattle.std.specs.Prelude.{◌↔◌}
use Rattle.dom_base.specs.declared.tri.Tri.{Tri}
use Rattle.dom_base.proofs.Lists.{Contains-first}
use Rattle.deck.specs.Paths.{Possible}
use Rattle.deck.specs.Switches.{value_of}
use Rattle.switch_model.specs.FourDrives.{target_by_drives}
use Rattle.switch_model.specs.LinksData.{is_first}
use Rattle.switch_model.specs.Targets.{IsTarget}
use Rattle.switch_model.proofs.PlainClasses.{one_net, path_within}
use Rattle.switch_model.proofs.Searches.{read_same}
use Rattle.switch_model.proofs.ToldTargets.{by_told}
use Rattle.switch_model.proofs.single.single_target.Goals as goal

pub returns-clause-target : goal.returns-clause-target
returns-clause-target g c =
    let devices = c.args.wires.now in
    let free = is_first c.args.sources in
    let values = c.args.values.now in
    let places = c.args.places.now in
    let net = c.args.net in
    let member = Contains-first net [] in
    let drives = c.single_drives-drives.result in
    let alike : (true ≡ true) ↔ ((n : ℕ) → Possible devices free values net n → free n ≡ false → value_of values n ≡ value_of values net) = (
      λ e n h f. ap (value_of values)
          (one_net (net ∷ []) (omega arith) n net (path_within devices free (net ∷ []) places c.requires.closed values h.1 member h.2 f) member),
      λ h. refl,
    ) in
    let target = by_told devices free values net (c.requires.closed.free net member) drives c.single_drives-drives.ensures.driven true alike (value_of values net) refl in
    subst (IsTarget devices free values net)
    (sym (c.target_from.ensures ∙ ap (λ (v : Tri). target_by_drives drives v) (read_same values net _ c.requires.net))) target
