use Rattle.std.proofs.Common.{arith, ap, ◌∙◌, ◌≡◌, ◌<◌, ◌+◌, ◌⊎◌, inl, inr, refl, sym, subst, length, get_or, List, ℕ, false, Vec, Global}
use Rattle.std.specs.Prelude.{Some, slice_get}
use Rattle.std.proofs.lemmas.Option.{slice_get-get_or, slice_get_within}
use Rattle.dom_base.proofs.Decided.{dec_nat}
use Rattle.dom_base.proofs.Lists.{Contains-slice_get, slice_get-contained}
use Rattle.dom_base.specs.declared.kind.Kind.TheVariants.{N as nch}
use Rattle.deck.specs.declared.device.Device.{Device}
use Rattle.dom_base.proofs.Bools.{never}
use Rattle.switch_model.specs.Components.{AreConnected}
use Rattle.switch_model.specs.Joins.{AreJoined, IsJoinForest}
use Rattle.switch_model.specs.LinksData.{is_first}
use Rattle.switch_model.proofs.Connections.{connected-more}
use Rattle.switch_model.proofs.Forests.{top_low, top_top}
use Rattle.switch_model.proofs.Walking.{the_same}
use Rattle.switch_model.proofs.components.join_ends.Goals as goal
use Rattle.switch_model.proofs.components.join_ends.Goals.{then-joins_nets, else-joins_nets}

abbrev zero_device : Device
zero_device = record { kind = nch; drain = 0; gate = 0; source = 0 }

pub loop-device-init : goal.loop-device-init
loop-device-init c =
    let parents = c.args.parents.now.items in
    let alone = c.requires.alone in
    let forest : IsJoinForest parents = λ n. omega (arith, alone n) in
    record {
      forest = forest;
      long = refl;
      joint = λ k d lt. absurd (omega (arith, lt));
      connected = λ a b j. inl (sym (top_top parents forest a (alone a)) ∙ j ∙ top_top parents forest b (alone b));
    }

pub loop-device-preserved : goal.loop-device-preserved
loop-device-preserved c =
    let i = c.loop-device.invariant in
    let devices = c.args.devices.now in
    let free = is_first c.args.sources in
    let at = c.loop-device.device-index in
    let d : Device = get_or devices at zero_device in
    let here : slice_get devices at ≡ Some d = slice_get-get_or devices at zero_device c.loop-device-test.true in
    elim c.if-joins_nets.branch [
      | then-joins_nets w ↦
          let e : c.if-joins_nets.parents.items ≡ w.join.new.parents.items = ap (λ (v : Vec ℕ Global). v.items) w.parents-is in
          let both = c.joins_nets.ensures.0 w.if-joins_nets.true in
          record {
            forest = subst (λ (l : List ℕ). IsJoinForest l) (sym e) w.join.ensures.forest;
            long = ap (λ (l : List ℕ). length l) e ∙ w.join.ensures.long ∙ i.long;
            joint = subst (λ (l : List ℕ). (k : ℕ) (x : Device) → k < at + 1 → slice_get devices k ≡ Some x
                → free x.drain ≡ false → free x.source ≡ false → AreJoined l x.drain x.source) (sym e)
                (λ k x lt is f g. elim (dec_nat k at) [
                  | inl same ↦
                      let y : d ≡ x = the_same d x (sym here ∙ ap (slice_get devices) (sym same) ∙ is) in
                      subst (λ (z : Device). AreJoined w.join.new.parents.items z.drain z.source) y ((w.join.ensures.joined d.drain d.source).1 (inr (inl (refl, refl))))
                  | inr ne ↦ (w.join.ensures.joined x.drain x.source).1 (inl (i.joint k x (omega (arith, lt, ne)) is f g))
                ]);
            connected = subst (λ (l : List ℕ). (a b : ℕ) → AreJoined l a b → (a ≡ b) ⊎ AreConnected devices free a b) (sym e)
                (λ a b j. connected-more devices free d (Contains-slice_get devices at d here) both.0 both.1 (AreJoined c.loop-device.parents.items) i.connected a b
                ((w.join.ensures.joined a b).0 j));
          }
      | else-joins_nets w ↦
          let e : c.if-joins_nets.parents.items ≡ c.loop-device.parents.items = ap (λ (v : Vec ℕ Global). v.items) w.parents-is in
          record {
            forest = subst (λ (l : List ℕ). IsJoinForest l) (sym e) i.forest;
            long = ap (λ (l : List ℕ). length l) e ∙ i.long;
            joint = subst (λ (l : List ℕ). (k : ℕ) (x : Device) → k < at + 1 → slice_get devices k ≡ Some x
                → free x.drain ≡ false → free x.source ≡ false → AreJoined l x.drain x.source) (sym e)
                (λ k x lt is f g. elim (dec_nat k at) [
                  | inl same ↦
                      let y : d ≡ x = the_same d x (sym here ∙ ap (slice_get devices) (sym same) ∙ is) in
                      absurd (never (c.joins_nets.ensures.1 (ap (λ (z : Device). free z.drain) y ∙ f, ap (λ (z : Device). free z.source) y ∙ g)) w.if-joins_nets.false)
                  | inr ne ↦ i.joint k x (omega (arith, lt, ne)) is f g
                ]);
            connected = subst (λ (l : List ℕ). (a b : ℕ) → AreJoined l a b → (a ≡ b) ⊎ AreConnected devices free a b) (sym e) i.connected;
          }
    ]

pub returns-clause-numbering : goal.returns-clause-numbering
returns-clause-numbering c =
    let i = c.loop-device.invariant in
    let devices = c.args.devices.now in
    let tops = c.flatten_all.ensures.tops in
    record {
      low = top_low c.flatten_all.new.parents.items c.flatten_all.ensures.forest;
      joint = λ d member f g.
          let z = slice_get-contained devices d member in
          tops d.drain ∙ i.joint z.0 d (omega (arith, c.loop-device-test.false, slice_get_within devices z.0 d z.1)) z.1 f g ∙ sym (tops d.source);
      connected = λ a b e. i.connected a b (sym (tops a) ∙ e ∙ tops b);
    }
