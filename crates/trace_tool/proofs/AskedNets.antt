-- The edges that probe words ask for at each net, word by word.
use Rattle.std.proofs.Common.{◌≡◌, ◌≢◌, ℕ, ◌+◌, ◌<◌, Bool, true, false, ◌&&◌, ◌||◌, inl, inr, List, [], ◌∷◌, ◌++◌, Contains, drop, length, nat_eq, replicate, slice_index_or, slice_set, take, Some, slice_get, refl, sym, ap, ◌∙◌, subst, arith}
use Rattle.std.specs.Cmp.Lexicographic.{bytes_decides, pointwise, same_text}
use Rattle.std.specs.List.{IsDistinct, list_any}
use Rattle.std.proofs.lemmas.List.{get_or-replicate, get_or-set_other, get_or-set_same, length-replicate, length-set, take-append-drop, take_more}
use Rattle.std.proofs.lemmas.List.Elements.{All-append, All-cons, All-nil}
use Rattle.std.proofs.lemmas.List.Folds.{list_any-append}
use Rattle.std.proofs.lemmas.Map.Keys.{apart_from_distinct}
use Rattle.std.proofs.lemmas.Option.{slice_get_within, get_or_from_slice_get}
use Rattle.dom_base.specs.declared.tri.Tri.{Tri}
use Rattle.dom_base.proofs.Bools.{or_false}
use Rattle.dom_base.proofs.Decided.{dec_nat, lt_or_ge}
use Rattle.dom_base.proofs.Lists.{Contains-slice_get}
use Rattle.event_sim.specs.declared.event.Event.{Event}
use Rattle.trace_tool.specs.AskedEdges.{AreAsked, hits, unasked}
use Rattle.trace_tool.specs.Probes.{AreNets, has_edge, tells}
use Rattle.trace_tool.specs.Refusals.{IsFirstNoNet}
use Rattle.trace_tool.specs.declared.asked.Asked.{Asked}
use Rattle.trace_tool.specs.declared.options.ProbeWord.{ProbeWord}
use Rattle.trace_tool.proofs.TraceRuns.{drop_at}

-- the edges that these words ask for, whose names are nets
pub record IsAskedTo (nets : List (List ℕ)) (words : List ProbeWord) (asked : List Asked) : Type 0 where
  pub many : length asked ≡ length nets
  pub asked_is : AreAsked words nets asked
  pub are_nets : AreNets nets words

pub asked_none : (nets : List (List ℕ)) (asked : List Asked) → asked ≡ replicate (length nets) unasked → IsAskedTo nets [] asked
asked_none nets asked is = record {
  many = ap length is ∙ length-replicate (length nets) unasked;
  asked_is = λ event lt.
      ap (λ (a : Asked). hits a event.before event.after) (ap (λ (l : List Asked). slice_index_or l event.net unasked) is ∙ get_or-replicate (length nets) event.net unasked unasked lt);
  are_nets = All-nil (λ (w : ProbeWord). Contains nets w.name);
}

-- two nets have different names
nets_differ : (nets : List (List ℕ)) (i j : ℕ) → IsDistinct (pointwise nat_eq) nets → i < j → j < length nets → slice_index_or nets i [] ≡ slice_index_or nets j [] → ⊥
nets_differ nets i j apart lt within same =
    let no : pointwise nat_eq (slice_index_or nets i []) (slice_index_or nets i []) ≡ false =
    ap (pointwise nat_eq (slice_index_or nets i [])) same ∙ apart_from_distinct (pointwise nat_eq) nets i j [] apart lt within in
    let never : true ≡ false = sym ((bytes_decides (slice_index_or nets i []) (slice_index_or nets i [])).1 refl) ∙ no in cc

not_named : (nets : List (List ℕ)) (net other : ℕ) (b : Bool) → IsDistinct (pointwise nat_eq) nets → net < length nets → other < length nets → net ≢ other
    → pointwise nat_eq (slice_index_or nets net []) (slice_index_or nets other []) ≡ b → b ≡ false
not_named nets net other false apart lt within differ is = refl
not_named nets net other true apart lt within differ is =
    let same = same_text (slice_index_or nets net []) (slice_index_or nets other []) (sym is) in
    absurd (elim (lt_or_ge net other) [
      | inl less ↦ nets_differ nets net other apart less within same
      | inr ge ↦ nets_differ nets other net apart (elim (lt_or_ge other net) [ inl x ↦ x | inr y ↦ absurd (differ (omega (arith, ge, y))) ]) lt (sym same)
    ])

module _ (nets : List (List ℕ)) (words : List ProbeWord) (asked asked' : List Asked) (word : ProbeWord) (net : ℕ) (more : Asked)
    (apart : IsDistinct (pointwise nat_eq) nets) (to : IsAskedTo nets words asked) (named : slice_get nets net ≡ Some word.name)
    (hits_more : (before after : Tri) → hits more before after ≡ (hits (slice_index_or asked net unasked) before after || has_edge word.edge before after))
    (new : asked' ≡ slice_set asked net more) where
  net_within : net < length nets
  net_within = slice_get_within nets net word.name named

  name_is : slice_index_or nets net [] ≡ word.name
  name_is = get_or_from_slice_get nets net word.name [] named

  -- at the word's own net
  at_net : (event : Event) → event.net ≡ net → hits (slice_index_or asked' event.net unasked) event.before event.after ≡ list_any (tells nets event) (words ++ word ∷ [])
  at_net event same =
      let here : slice_index_or asked' event.net unasked ≡ more =
      (λ i. slice_index_or (new i) (same i) unasked) ∙ get_or-set_same asked net more unasked (omega (arith, net_within, to.many)) in
      let old : hits (slice_index_or asked net unasked) event.before event.after ≡ list_any (tells nets event) words =
      ap (λ (n : ℕ). hits (slice_index_or asked n unasked) event.before event.after) (sym same) ∙ to.asked_is event (omega (arith, net_within, same)) in
      let own : tells nets event word ≡ has_edge word.edge event.before event.after =
      ap (λ (l : List ℕ). pointwise nat_eq word.name l && has_edge word.edge event.before event.after) (ap (λ (n : ℕ). slice_index_or nets n []) same ∙ name_is)
      ∙ ap (λ (b : Bool). b && has_edge word.edge event.before event.after) ((bytes_decides word.name word.name).1 refl) in
      ap (λ (a : Asked). hits a event.before event.after) here
      ∙ hits_more event.before event.after
      ∙ (λ i. old i || sym own i)
      ∙ ap (λ (b : Bool). list_any (tells nets event) words || b) (sym (or_false (tells nets event word)))
      ∙ sym (list_any-append (tells nets event) words (word ∷ []))

  -- and at any other
  elsewhere : (event : Event) → event.net < length nets → event.net ≢ net
      → hits (slice_index_or asked' event.net unasked) event.before event.after ≡ list_any (tells nets event) (words ++ word ∷ [])
  elsewhere event lt differ =
      let there : slice_index_or asked' event.net unasked ≡ slice_index_or asked event.net unasked =
      ap (λ (l : List Asked). slice_index_or l event.net unasked) new ∙ get_or-set_other asked net event.net more unasked differ in
      let untold : tells nets event word ≡ false =
      ap (λ (b : Bool). b && has_edge word.edge event.before event.after)
      (ap (λ (l : List ℕ). pointwise nat_eq l (slice_index_or nets event.net [])) (sym name_is)
      ∙ not_named nets net event.net _ apart net_within lt (λ same. differ (sym same)) refl) in
      ap (λ (a : Asked). hits a event.before event.after) there
      ∙ to.asked_is event lt
      ∙ sym (or_false (list_any (tells nets event) words))
      ∙ ap (λ (b : Bool). list_any (tells nets event) words || b) (sym (ap (λ (b : Bool). b || false) untold))
      ∙ sym (list_any-append (tells nets event) words (word ∷ []))

  pub asked_more : IsAskedTo nets (words ++ word ∷ []) asked'
  asked_more = record {
    many = ap length new ∙ length-set asked net more ∙ to.many;
    asked_is = λ event lt. elim (dec_nat event.net net) [ inl same ↦ at_net event same | inr differ ↦ elsewhere event lt differ ];
    are_nets = All-append (λ (w : ProbeWord). Contains nets w.name) words (word ∷ []) to.are_nets
        (All-cons (λ (w : ProbeWord). Contains nets w.name) word [] (Contains-slice_get nets net word.name named) (All-nil (λ (w : ProbeWord). Contains nets w.name)));
  }

-- the first words and one more
pub words_more : (words : List ProbeWord) (i : ℕ) (word : ProbeWord) → i < length words → word ≡ slice_index_or words i word → take (i + 1) words ≡ take i words ++ word ∷ []
words_more words i word lt is = take_more words i word lt ∙ ap (λ (w : ProbeWord). take i words ++ w ∷ []) (sym is)

-- the first word whose name is none of the nets
pub first_unnamed : (nets : List (List ℕ)) (words : List ProbeWord) (asked : List Asked) (i : ℕ) (word : ProbeWord) (name : List ℕ) → IsAskedTo nets (take i words) asked
    → i < length words → word ≡ slice_index_or words i word → (Contains nets word.name → ⊥) → name ≡ word.name → IsFirstNoNet nets words name
first_unnamed nets words asked i word name to lt is none same = record {
  before = take i words;
  word = word;
  after = drop (i + 1) words;
  words_are = sym (take-append-drop i words) ∙ ap (λ (l : List ProbeWord). take i words ++ l) (drop_at words i word lt is);
  are_nets = to.are_nets;
  name_is = sym same;
  no_net = subst (λ (n : List ℕ). Contains nets n → ⊥) (sym same) none;
}
