-- Shapes of groups of devices as keys: which are the same, and how they are hashed.
use Rattle.std.specs.Prelude.{ℕ, ◌≡◌, ◌+◌, ◌*◌, ◌&&◌, true, nat_eq, List, drop}
use Rattle.std.proofs.Common.{ap}
use Rattle.std.specs.List.{flat_map}
use Rattle.std.specs.Cmp.{IsEquivalence, IsPartialEquivalence, and_equiv, on_equiv, nat_eq_equiv, partial_equiv_from_equiv}
use Rattle.std.specs.Cmp.{first_so, second_so, unsigned_Decides}
use Rattle.std.specs.Cmp.Lexicographic.{lists_equiv, nat_list_eq_equiv, pointwise}
use Rattle.std.specs.Hash.{Alike, items_Alike, u64}
use Rattle.deck.specs.declared.device.Device.{Device}
use Rattle.deck.specs.DeckText.{model_word}
use Rattle.spice_text.specs.Cells.{same_cell_shape, same_device}

-- a number of a device by its nets
abbrev pub device_number : Device → ℕ
device_number d = d.drain * 2147483648 + d.source * 65536 + d.gate

-- what is fed to a hash for a device
abbrev pub device_writes : Device → List (List ℕ)
device_writes d = u64 (device_number d)

abbrev pub shape_writes : List Device → List (List ℕ)
shape_writes shape = flat_map device_writes shape

device_equiv : IsEquivalence same_device
device_equiv =
    and_equiv
    (and_equiv (and_equiv (on_equiv (λ (d : Device). model_word d.kind) nat_list_eq_equiv)
    (on_equiv (λ (d : Device). d.drain) nat_eq_equiv)) (on_equiv (λ (d : Device). d.gate) nat_eq_equiv))
    (on_equiv (λ (d : Device). d.source) nat_eq_equiv)

-- to have the same shape is an equivalence
pub shape_equiv : IsEquivalence same_cell_shape
shape_equiv = lists_equiv device_equiv

pub shape_per : IsPartialEquivalence same_cell_shape
shape_per = partial_equiv_from_equiv shape_equiv

device_alike : Alike same_device device_writes
device_alike = record {
  fed = λ x y same.
      let word = pointwise nat_eq (model_word x.kind) (model_word y.kind) in
      let drain = nat_eq x.drain y.drain in
      let gate = nat_eq x.gate y.gate in
      let source = nat_eq x.source y.source in
      let three = first_so ((word && drain) && gate) source same in
      let drains = (unsigned_Decides x.drain y.drain).0 (second_so word drain (first_so (word && drain) gate three)) in
      let gates = (unsigned_Decides x.gate y.gate).0 (second_so (word && drain) gate three) in
      let sources = (unsigned_Decides x.source y.source).0 (second_so ((word && drain) && gate) source same) in
      λ i. u64 (drains i * 2147483648 + sources i * 65536 + gates i);
}

-- the same shapes are hashed alike
pub shape_alike : (x y : List Device) → same_cell_shape x y ≡ true → shape_writes x ≡ shape_writes y
shape_alike x y same = ap (λ (l : List (List ℕ)). drop 1 l) ((items_Alike device_alike).fed x y same)
