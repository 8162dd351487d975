-- Names as words with blanks before them: one more name, and one name after the other.
use Rattle.std.proofs.Common.{◌≡◌, ℕ, ◌+◌, ◌-◌, ◌≤◌, ◌<◌, ◌^◌, Bool, true, false, List, [], ◌∷◌, ◌++◌, length, map, take, drop, get_or, nat_eq, refl, sym, ap, ap₂, ◌∙◌, subst, arith, append-nil, length-append}
use Rattle.std.specs.List.{flat_map, list_any, position_or_len}
use Rattle.std.specs.Cmp.Lexicographic.{pointwise, bytes_decides}
use Rattle.std.proofs.lemmas.List.{drop-drop, drop_all, drop_at, drop_more, get_or-map, length-drop, length-map, take_at}
use Rattle.std.proofs.lemmas.List.Concat.{flat_map-append}
use Rattle.dom_base.proofs.Bools.{same_truth}
use Rattle.dom_base.proofs.Lists.{map-push}
use Rattle.deck.specs.Nets.{net_number, with_net}
use Rattle.spice_text.proofs.Places.{position_or_len-none}
use Rattle.plan_text.specs.NameLists.{AreWords, cut_words, name_words}

abbrev sizes_of : List (List ℕ) → List ℕ
sizes_of names = map (λ (name : List ℕ). length name) names

-- the words of names are cut into these
pub cut_name_words : (names : List (List ℕ)) → cut_words (sizes_of names) (name_words names) ≡ names
cut_name_words [] = refl
cut_name_words (name ∷ names) =
    ap₂ (λ n l. n ∷ l) (take_at name (name_words names) (length name) refl)
    (ap (cut_words (sizes_of names)) (drop_at name (name_words names) (length name) refl) ∙ cut_name_words names)

-- one more name
pub name_added : (names : List (List ℕ)) (name sizes words sizes' words' : List ℕ)
    → cut_words sizes words ≡ names → AreWords sizes words → length sizes + 1 < 2 ^ 32
    → sizes' ≡ sizes ++ length name ∷ [] → words' ≡ words ++ 32 ∷ name
    → (cut_words sizes' words' ≡ names ++ name ∷ []) × AreWords sizes' words'
name_added names name sizes words sizes' words' view are few more longer =
    let new : List (List ℕ) = names ++ name ∷ [] in
    let sizes_new : sizes' ≡ sizes_of new =
    more ∙ ap (λ l. l ++ length name ∷ []) (are.sizes_are ∙ ap sizes_of view) ∙ sym (map-push (λ (n : List ℕ). length n) names name) in
    let words_new : words' ≡ name_words new =
    longer ∙ ap (λ l. l ++ 32 ∷ name) (are.words_are ∙ ap name_words view)
    ∙ ap (λ l. name_words names ++ l) (sym (append-nil (32 ∷ name)))
    ∙ sym (flat_map-append (λ (n : List ℕ). 32 ∷ n) names (name ∷ [])) in
    let cut : cut_words sizes' words' ≡ new = ap₂ cut_words sizes_new words_new ∙ cut_name_words new in (
      cut,
      record {
        sizes_are = sizes_new ∙ ap sizes_of (sym cut);
        few = omega (arith, ap length more, length-append sizes (length name ∷ []), few);
        words_are = words_new ∙ ap name_words (sym cut);
      },
    )

-- the names from a place on, one of which is looked for; their words begin at this place of the words
pub record IsLeft (names : List (List ℕ)) (name sizes words : List ℕ) (start place : ℕ) : Type 0 where
  pub sizes_are : sizes ≡ sizes_of names
  pub rest_is : drop start words ≡ name_words (drop place names)
  pub number : position_or_len (pointwise nat_eq name) (drop place names) + place ≡ net_number names name
  pub any : list_any (pointwise nat_eq name) (drop place names) ≡ list_any (pointwise nat_eq name) names

pub all_left : (names : List (List ℕ)) (name sizes words : List ℕ) → cut_words sizes words ≡ names → AreWords sizes words → IsLeft names name sizes words 0 0
all_left names name sizes words view are = record {
  sizes_are = are.sizes_are ∙ ap sizes_of view;
  rest_is = are.words_are ∙ ap name_words view;
  number = omega arith;
  any = refl;
}

module _ (names : List (List ℕ)) (name sizes words : List ℕ) (start place : ℕ) (left : IsLeft names name sizes words start place) (lt : place < length sizes) where
  abbrev own : List ℕ
  own = get_or names place []

  abbrev size : ℕ
  size = get_or sizes place 0

  -- the next name
  pub record IsNext : Type 0 where
    pub long : size ≡ length own
    pub room : start + 1 + size ≤ length words
    pub word_is : take size (drop (start + 1) words) ≡ own
    pub more_is : drop (start + (size + 1)) words ≡ name_words (drop (place + 1) names)
    pub names_are : drop place names ≡ own ∷ drop (place + 1) names

  pub next_name : IsNext
  next_name =
      let more : List ℕ = name_words (drop (place + 1) names) in
      let low : place < length names = omega (arith, lt, ap length left.sizes_are, length-map names (λ (n : List ℕ). length n)) in
      let long : size ≡ length own =
      ap (λ l. get_or l place 0) left.sizes_are ∙ get_or-map (λ (n : List ℕ). length n) names place [] 0 low in
      let are : drop place names ≡ own ∷ drop (place + 1) names = drop_more names place [] low in
      let whole : drop start words ≡ 32 ∷ (own ++ more) = left.rest_is ∙ ap name_words are in
      let behind : drop (start + 1) words ≡ own ++ more = sym (drop-drop 1 start words) ∙ ap (drop 1) whole in
      let far : start + (size + 1) ≡ (start + 1) + size = omega arith in
      record {
        long = long;
        room = omega (arith, long, ap length whole, length-append own more, length-drop start words);
        word_is = ap₂ (λ n l. take n l) long behind ∙ take_at own more (length own) refl;
        more_is = ap (λ n. drop n words) far ∙ sym (drop-drop size (start + 1) words) ∙ ap₂ (λ n l. drop n l) long behind ∙ drop_at own more (length own) refl;
        names_are = are;
      }

  -- it is the one
  pub found_name : pointwise nat_eq (take size (drop (start + 1) words)) name ≡ true
      → (list_any (pointwise nat_eq name) names ≡ true) × (place ≡ net_number names name)
  found_name same =
      let next = next_name in
      let is : name ≡ own = sym ((bytes_decides (take size (drop (start + 1) words)) name).0 same) ∙ next.word_is in
      let yes : pointwise nat_eq name own ≡ true = (bytes_decides name own).1 is in
      let others : List (List ℕ) = drop (place + 1) names in
      let any : list_any (pointwise nat_eq name) (own ∷ others) ≡ true = rw yes refl in
      let number : position_or_len (pointwise nat_eq name) (own ∷ others) ≡ 0 = rw yes refl in (
        sym left.any ∙ ap (list_any (pointwise nat_eq name)) next.names_are ∙ any,
        omega (arith, left.number, ap (position_or_len (pointwise nat_eq name)) next.names_are ∙ number),
      )

  -- it is another
  pub other_name : pointwise nat_eq (take size (drop (start + 1) words)) name ≡ false
      → IsLeft names name sizes words (start + (size + 1)) (place + 1)
  other_name differs =
      let next = next_name in
      let word : List ℕ = take size (drop (start + 1) words) in
      let unlike : pointwise nat_eq name own ≡ false =
      same_truth (pointwise nat_eq name own) (pointwise nat_eq word name)
      (λ h. (bytes_decides word name).1 (next.word_is ∙ sym ((bytes_decides name own).0 h)))
      (λ h. (bytes_decides name own).1 (sym ((bytes_decides word name).0 h) ∙ next.word_is))
      ∙ differs in
      let others : List (List ℕ) = drop (place + 1) names in
      let any : list_any (pointwise nat_eq name) (own ∷ others) ≡ list_any (pointwise nat_eq name) others = rw unlike refl in
      let number : position_or_len (pointwise nat_eq name) (own ∷ others) ≡ 1 + position_or_len (pointwise nat_eq name) others = rw unlike (omega arith) in
      record {
        sizes_are = left.sizes_are;
        rest_is = next.more_is;
        number = omega (arith, left.number, ap (position_or_len (pointwise nat_eq name)) next.names_are ∙ number);
        any = sym any ∙ sym (ap (list_any (pointwise nat_eq name)) next.names_are) ∙ left.any;
      }

-- no name is left
pub none_left : (names : List (List ℕ)) (name sizes words : List ℕ) (start place : ℕ) → IsLeft names name sizes words start place → length sizes ≤ place
    → list_any (pointwise nat_eq name) names ≡ false
none_left names name sizes words start place left far =
    let end : drop place names ≡ [] =
    drop_all place names (omega (arith, far, ap length left.sizes_are, length-map names (λ (n : List ℕ). length n))) in
    sym left.any ∙ ap (list_any (pointwise nat_eq name)) end

-- a name that doesn't stand, by its place and as one more
pub new_name : (names : List (List ℕ)) (name : List ℕ) → list_any (pointwise nat_eq name) names ≡ false
    → (net_number names name ≡ length names) × (with_net names name ≡ names ++ name ∷ [])
new_name names name none = (position_or_len-none (pointwise nat_eq name) names none, rw none refl)
