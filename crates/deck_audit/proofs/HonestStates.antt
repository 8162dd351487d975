-- Honest states don't hang on the order of devices, nor on which end of a device is its drain.
use Rattle.std.proofs.Common.{Bool, List, ℕ}
use Rattle.dom_base.specs.declared.tri.Tri.{Tri}
use Rattle.deck.specs.Paths.{Possible}
use Rattle.deck.specs.declared.device.Device.{Device}
use Rattle.circuit_law.specs.Exchanged.{HasDevicesOf}
use Rattle.port_runs.specs.Environment.{Place}
use Rattle.domino_law.specs.Honest.{IsHonest}
use Rattle.domino_law.specs.Nets.{Net}
use Rattle.domino_law.specs.Places.{ClockState}
use Rattle.domino_law.specs.Shape.{Shape}
use Rattle.deck_audit.proofs.Twins.{definite_strong, not_off_twins, twin_path}

possible : (ds es : List Device) → HasDevicesOf ds es → (is_source : ℕ → Bool) (values : List Tri) (a b : ℕ) → Possible ds is_source values a b → Possible es is_source values a b
possible ds es w is_source values a b h =
    let t = twin_path ds es w is_source h.1 h.2 in
    (t.0, t.1, t.2, not_off_twins ds es w is_source values h.0 t.0 t.3 h.3)

pub honest_exchanged : (ds es : List Device) → HasDevicesOf ds es → HasDevicesOf es ds → (is_source : ℕ → Bool) (net : Net → ℕ) (s : Shape) (place : Place)
    (up : ℕ → ClockState) (old new pins : ℕ → Bool) (kept : ℕ → Tri) (values : List Tri)
    → IsHonest ds is_source net s place up old new pins kept values → IsHonest es is_source net s place up old new pins kept values
honest_exchanged ds es w u is_source net s place up old new pins kept values h = record {
  frame = h.frame;
  cells = record {
    sides = λ k c at.
        let side = (h.cells).sides k c at in
        record {
          pulled = λ one early a spot zero. definite_strong ds es w is_source values _ _ (side.pulled one early a spot zero);
          spots_known = side.spots_known;
          spots_idle = side.spots_idle;
        };
    outs = (h.cells).outs;
    held = λ k c at one fallen.
        let cell = (h.cells).held k c at one fallen in
        record {
          pair = cell.pair;
          shut = cell.shut;
          discharged = λ own n joined. cell.discharged own n (possible es ds u is_source values _ n joined);
        };
  };
  settled = h.settled;
}
