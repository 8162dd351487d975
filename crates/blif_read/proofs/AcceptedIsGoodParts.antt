-- Latches and instances of lines without faults.
use Rattle.std.proofs.Common.{◌≡◌, ◌≢◌, ℕ, ◌≤◌, ◌+◌, Bool, true, false, ◌==◌, nat_lt, if◌then◌else◌, List, [], ◌∷◌, length, map, filter, drop, slice_index_or, Some, None, IfSome, codes, refl, ap, sym, ◌∙◌, subst, arith}
use Rattle.std.specs.List.{AllByRecursion, filter_map, cons_option, list_all, position_or_len}
use Rattle.std.specs.Cmp.Lexicographic.{other_text}
use Rattle.std.proofs.lemmas.Bool.{eqb-false}
use Rattle.std.proofs.lemmas.List.Elements.{All-from_recursion, recursion_from_All}
use Rattle.dom_base.proofs.Lists.{AllByRecursion-take, AllByRecursion-weaker, before_first-all, AllByRecursion-drop}
use Rattle.blif_ast.specs.declared.latch.Latch.{Latch}
use Rattle.blif_ast.specs.Good.{IsNameByte, IsGoodName, IsGoodSignal, IsGoodLatch, IsGoodBinding, IsGoodInstance}
use Rattle.blif_ast.specs.declared.card.Card.TheVariants as card
use Rattle.blif_ast.specs.LogicalLines.{LogicalLine}
use Rattle.blif_ast.specs.Cards.{same, begins, is_init, is_type, is_latch_form, is_subckt_form, formal_of, actual_of, is_binding, latch_card, subckt_card}
use Rattle.blif_ast.specs.Models.{control_of, init_of, latch_of, latches_of, binding_of, instance_of, instances_of}
use Rattle.blif_numbers.proofs.KnownWords.{one_of-all}
use Rattle.blif_read.proofs.AcceptedIsGoodRows.{and_first, and_second}
use Rattle.blif_read.proofs.AcceptedIsGoodLines.{Free, IsGoodLine, card_form}

init_small : (word : List ℕ) → is_init word ≡ true → init_of word ≤ 3
init_small word h =
    let zero_is : init_of (codes "0") ≡ 0 = refl in
    let one_is : init_of (codes "1") ≡ 1 = refl in
    let two_is : init_of (codes "2") ≡ 2 = refl in
    let three_is : init_of (codes "3") ≡ 3 = refl in
    one_of-all (λ w. init_of w ≤ 3) (codes "0" ∷ codes "1" ∷ codes "2" ∷ codes "3" ∷ []) word
    (omega (arith, zero_is), (omega (arith, one_is), (omega (arith, two_is), (omega (arith, three_is), tt)))) h

good_signal : (type word : List ℕ) → IsGoodName word → IfSome (control_of type word).signal IsGoodSignal
good_signal type word h = by (same word (codes "NIL")) refl
  where
    by : (b : Bool) → same word (codes "NIL") ≡ b → IfSome (if same word (codes "NIL") then None else Some word) IsGoodSignal
    by true e = subst (λ b. IfSome (if b then None else Some word) IsGoodSignal) (sym e) tt
    by false e = subst (λ b. IfSome (if b then None else Some word) IsGoodSignal) (sym e) (record { name = h; some = other_text word (codes "NIL") (sym e) })

-- a latch of these words
pub record IsLatchOf (number : ℕ) (words : List (List ℕ)) : Type 0 where
  pub latch : Latch
  pub latch_is : latch_of number words ≡ Some latch
  pub line_is : latch.line ≡ number
  pub good : IsGoodLatch latch

good_latch : (number : ℕ) (words : List (List ℕ)) → is_latch_form words ≡ true → AllByRecursion IsGoodName words → IsLatchOf number words
good_latch number [] form h = absurd (cc)
good_latch number (card ∷ []) form h = absurd (cc)
good_latch number (card ∷ input ∷ []) form h = absurd (cc)
good_latch number (card ∷ input ∷ output ∷ []) form h = record {
  latch = record { input = input; output = output; control = None; init = 3; line = number };
  latch_is = refl;
  line_is = refl;
  good = record { input = h.1.0; output = h.1.1.0; control = tt; init = omega arith };
}
good_latch number (card ∷ input ∷ output ∷ init ∷ []) form h = record {
  latch = record { input = input; output = output; control = None; init = init_of init; line = number };
  latch_is = refl;
  line_is = refl;
  good = record { input = h.1.0; output = h.1.1.0; control = tt; init = init_small init form };
}
good_latch number (card ∷ input ∷ output ∷ type ∷ control ∷ []) form h = record {
  latch = record { input = input; output = output; control = Some (control_of type control); init = 3; line = number };
  latch_is = refl;
  line_is = refl;
  good = record { input = h.1.0; output = h.1.1.0; control = good_signal type control h.1.1.1.1.0; init = omega arith };
}
good_latch number (card ∷ input ∷ output ∷ type ∷ control ∷ init ∷ []) form h = record {
  latch = record { input = input; output = output; control = Some (control_of type control); init = init_of init; line = number };
  latch_is = refl;
  line_is = refl;
  good = record { input = h.1.0; output = h.1.1.0; control = good_signal type control h.1.1.1.1.0; init = init_small init (and_second (is_type type) (is_init init) form) };
}
good_latch number (card ∷ input ∷ output ∷ type ∷ control ∷ init ∷ next ∷ more) form h = absurd (cc)

-- the latches of lines are good, and stand on the lines of their cards
pub record GoodLatches (all : List LogicalLine) : Type 0 where
  pub good : AllByRecursion IsGoodLatch (latches_of all)
  pub lines : map (λ l. l.line) (latches_of all) ≡ map (λ line. line.number) (filter (begins latch_card) all)

one_more_latch : (line : LogicalLine) (all : List LogicalLine) → begins latch_card line ≡ true → IsLatchOf line.number line.words → GoodLatches all → GoodLatches (line ∷ all)
one_more_latch line all is l rest = record {
  good = subst (AllByRecursion IsGoodLatch) (sym latches_are) (l.good, rest.good);
  lines = ap (map (λ k. k.line)) latches_are ∙ (λ i. l.line_is i ∷ rest.lines i) ∙ sym (ap (map (λ k. k.number)) kept);
}
  where
    kept : filter (begins latch_card) (line ∷ all) ≡ line ∷ filter (begins latch_card) all
    kept = rw is refl

    latches_are : latches_of (line ∷ all) ≡ l.latch ∷ latches_of all
    latches_are = ap (filter_map (λ k. latch_of k.number k.words)) kept ∙ ap (λ o. cons_option o (latches_of all)) l.latch_is

no_more_latch : (line : LogicalLine) (all : List LogicalLine) → begins latch_card line ≡ false → GoodLatches all → GoodLatches (line ∷ all)
no_more_latch line all is rest = record {
  good = subst (AllByRecursion IsGoodLatch) (sym (ap (filter_map (λ k. latch_of k.number k.words)) kept)) rest.good;
  lines = ap (λ f. map (λ l. l.line) (filter_map (λ k. latch_of k.number k.words) f)) kept ∙ rest.lines ∙ sym (ap (map (λ k. k.number)) kept);
}
  where
    kept : filter (begins latch_card) (line ∷ all) ≡ filter (begins latch_card) all
    kept = rw is refl

pub good_latches : (before all : List LogicalLine) → Free before all → AllByRecursion IsGoodLine all → GoodLatches all
good_latches before [] free good = record { good = tt; lines = refl }
good_latches before (line ∷ more) free good = by (begins latch_card line) refl (good_latches (line ∷ before) more free.1 good.1)
  where
    by : (b : Bool) → begins latch_card line ≡ b → GoodLatches more → GoodLatches (line ∷ more)
    by true e rest = one_more_latch line more e (good_latch line.number line.words (card_form card.Latch before line e free.0) good.0.1) rest
    by false e rest = no_more_latch line more e rest

nat_some : (bytes : List ℕ) → nat_lt 0 (length bytes) ≡ true → bytes ≢ []
nat_some [] h e = let never : false ≡ true = h in cc
nat_some (b ∷ bs) h e = cc

no_equals : (b : ℕ) → (b == 61) ≡ false → b ≢ 61
no_equals b h e = eqb-false b 61 h e

good_binding : (word : List ℕ) → is_binding word ≡ true → IsGoodName word → IsGoodBinding (binding_of word)
good_binding word form h =
    let bytes = recursion_from_All IsNameByte word h.bytes in
    let place = position_or_len (λ b. b == 61) word in
    record {
      formal = record {
        some = nat_some (formal_of word) (and_first (nat_lt 0 (length (formal_of word))) (nat_lt 0 (length (actual_of word))) form);
        bytes = All-from_recursion IsNameByte (formal_of word) (AllByRecursion-take IsNameByte place word bytes);
      };
      no_equals = All-from_recursion (λ b. b ≢ 61) (formal_of word)
          (AllByRecursion-weaker (λ b. (b == 61) ≡ false) (λ b. b ≢ 61) no_equals (formal_of word) (before_first-all (λ b. b == 61) word));
      actual = record {
        some = nat_some (actual_of word) (and_second (nat_lt 0 (length (formal_of word))) (nat_lt 0 (length (actual_of word))) form);
        bytes = All-from_recursion IsNameByte (actual_of word) (AllByRecursion-drop IsNameByte (place + 1) word bytes);
      };
    }

bindings_good : (words : List (List ℕ)) → list_all is_binding words ≡ true → AllByRecursion IsGoodName words → AllByRecursion IsGoodBinding (map binding_of words)
bindings_good [] form h = tt
bindings_good (word ∷ words) form h =
    (good_binding word (and_first (is_binding word) (list_all is_binding words) form) h.0, bindings_good words (and_second (is_binding word) (list_all is_binding words) form) h.1)

good_instance : (line : LogicalLine) (words : List (List ℕ)) → line.words ≡ words → is_subckt_form words ≡ true → AllByRecursion IsGoodName words → IsGoodInstance (instance_of line)
good_instance line [] is form h = absurd (cc)
good_instance line (card ∷ []) is form h = absurd (cc)
good_instance line (card ∷ unit ∷ bindings) is form h = record {
  unit = subst (λ w. IsGoodName (slice_index_or w 1 [])) (sym is) h.1.0;
  bindings = All-from_recursion IsGoodBinding (map binding_of (drop 2 line.words))
      (subst (λ w. AllByRecursion IsGoodBinding (map binding_of (drop 2 w))) (sym is) (bindings_good bindings form h.1.1));
}

pub good_instances : (before all : List LogicalLine) → Free before all → AllByRecursion IsGoodLine all → AllByRecursion IsGoodInstance (instances_of all)
good_instances before [] free good = tt
good_instances before (line ∷ more) free good = by (begins subckt_card line) refl (good_instances (line ∷ before) more free.1 good.1)
  where
    by : (b : Bool) → begins subckt_card line ≡ b → AllByRecursion IsGoodInstance (instances_of more) → AllByRecursion IsGoodInstance (instances_of (line ∷ more))
    by true e rest = rw e (good_instance line line.words refl (card_form card.Subckt before line e free.0) good.0.1, rest)
    by false e rest = rw e rest
