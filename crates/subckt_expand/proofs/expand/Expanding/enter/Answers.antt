use Rattle.std.proofs.Common.{◌++◌, ◌∷◌, [], ◌∙◌, ap, sym, subst, map, length, ℕ, List, Option, Vec, Bor}
use Rattle.std.specs.declared.alloc.Global.{Global}
use Rattle.std.proofs.lemmas.List.{map-append}
use Rattle.subckt_expand.specs.Definitions.{CallData}
use Rattle.subckt_expand.specs.Units.{definitions}
use Rattle.subckt_expand.specs.Frames.{ExpandingData, IsEntered, IsExpanding, IsWayOut}
use Rattle.subckt_expand.specs.declared.part.LevelName.{LevelName}
use Rattle.subckt_expand.proofs.Kept.{enter_is}
use Rattle.subckt_expand.proofs.Pushes.{pushed_items}
use Rattle.subckt_expand.proofs.expand.Expanding.enter.Goals as goal

pub invariant_of-self-2 : goal.invariant_of-self-2
invariant_of-self-2 c =
    let value : Bor CallData → CallData = λ r. r.now in
    let items : Vec (Option ℕ) Global → List (Option ℕ) = λ n. n.items in
    let calls = pushed_items _ _ _ _ _ _ c.push.ensures.items c.push.ensures.full c.in_ok-reserve.ensures.ok ∙ ap (λ l. l ++ c.args.call ∷ []) c.in_ok-reserve.ensures.items in
    let ways = pushed_items _ _ _ _ _ _ c.push-2.ensures.items c.push-2.ensures.full c.in_ok-reserve-2.ensures.ok ∙ ap (λ l. l ++ c.in_ok-way.way ∷ []) c.in_ok-reserve-2.ensures.items in
    let rows = pushed_items _ _ _ _ _ _ c.push-3.ensures.items c.push-3.ensures.full c.in_ok-reserve-3.ensures.ok ∙ ap (λ l. l ++ c.in_ok-row.row ∷ []) c.in_ok-reserve-3.ensures.items in
    let same_calls = ap (map value) calls ∙ map-append value c.self.inside.calls.items (c.args.call ∷ []) in
    let same_rows = ap (map items) rows ∙ map-append items c.self.inside.numbers.items (c.in_ok-row.row ∷ []) in
    let enters = subst (λ (v : ExpandingData). IsEntered (definitions v.units) v.main (v.calls ++ c.args.call.now ∷ []) (length v.calls)) (sym c.self.view_is) c.requires in
    let leads = subst (λ (v : ExpandingData). IsWayOut (definitions v.units) v.main (v.calls ++ c.args.call.now ∷ []) (length v.calls) c.in_ok-way.way) (sym c.self.view_is) c.in_ok-way.ensures in
    subst (λ (p : List CallData × (List LevelName × List (List (Option ℕ)))). IsExpanding (record {
      units = c.self.inside.units.now;
      main = c.self.inside.main;
      calls = p.0;
      ways = p.1.0;
      numbers = p.1.1;
      nets = c.self.inside.nets.keys;
      devices = c.self.inside.devices.items;
    })) (λ i. (sym same_calls i, (sym ways i, sym same_rows i))) (enter_is _ c.args.call.now _ _ c.self.invariant enters leads c.in_ok-row.ensures)
