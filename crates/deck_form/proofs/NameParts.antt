-- The parts of names that are made of them, and names that don't stand among others.
use Rattle.std.specs.Fmt.{decimal}
use Rattle.std.specs.Char.{digit_value}
use Rattle.std.specs.Str.Parse.{AllDigits, digits_value}
use Rattle.std.proofs.Common.{◌≡◌, ℕ, ◌<◌, ◌^◌, Bool, true, false, cond, List, [], ◌∷◌, ◌++◌, refl, sym, ap, ◌∙◌, subst, nat_eq, append-nil}
use Rattle.std.specs.List.{AllByRecursion, list_any}
use Rattle.std.specs.Cmp.Lexicographic.{pointwise, bytes_decides}
use Rattle.std.proofs.lemmas.Bool.{lt-ltb}
use Rattle.std.proofs.lemmas.Fmt.{decimal_is_IsNumeral}
use Rattle.dom_base.proofs.Lists.{AllByRecursion-append, list_any-none}
use Rattle.deck.specs.CircuitData.{CircuitData}
use Rattle.deck.specs.NamedDevices.{NamedDevice, with_devices}
use Rattle.deck.specs.Nets.{with_net}
use Rattle.deck.specs.Pushes.{pushed}
use Rattle.deck_form.specs.NameParts.{NoDigit, behind, front, is_digit, number_of, rest_of}

pub front-digits : (ds cs : List ℕ) → AllDigits 10 ds → NoDigit cs → front (ds ++ cs) ≡ ds
front-digits [] [] d e = refl
front-digits [] (c ∷ cs) d e = rw e refl
front-digits (x ∷ ds) cs d e = let yes : is_digit x ≡ true = lt-ltb (digit_value x) 10 d.0 in rw yes (ap (λ l. x ∷ l) (front-digits ds cs d.1 e))

pub behind-digits : (ds cs : List ℕ) → AllDigits 10 ds → NoDigit cs → behind (ds ++ cs) ≡ cs
behind-digits [] [] d e = refl
behind-digits [] (c ∷ cs) d e = rw e refl
behind-digits (x ∷ ds) cs d e = let yes : is_digit x ≡ true = lt-ltb (digit_value x) 10 d.0 in rw yes (behind-digits ds cs d.1 e)

-- the parts of a name that is made of them
pub number_is : (c n : ℕ) (cs : List ℕ) → n < 2 ^ 64 → NoDigit cs → number_of (c ∷ (decimal n ++ cs)) ≡ n
number_is c n cs small e = ap (digits_value 10) (front-digits (decimal n) cs (decimal_is_IsNumeral n small).0.1 e) ∙ (decimal_is_IsNumeral n small).1

pub rest_is : (c n : ℕ) (cs : List ℕ) → n < 2 ^ 64 → NoDigit cs → rest_of (c ∷ (decimal n ++ cs)) ≡ cs
rest_is c n cs small e = behind-digits (decimal n) cs (decimal_is_IsNumeral n small).0.1 e

pub bare_number_is : (c n : ℕ) → n < 2 ^ 64 → number_of (c ∷ decimal n) ≡ n
bare_number_is c n small = ap (λ l. number_of (c ∷ l)) (sym (append-nil (decimal n))) ∙ number_is c n [] small tt

pub bare_rest_is : (c n : ℕ) → n < 2 ^ 64 → rest_of (c ∷ decimal n) ≡ []
bare_rest_is c n small = ap (λ l. rest_of (c ∷ l)) (sym (append-nil (decimal n))) ∙ rest_is c n [] small tt

-- a property of all names that one name doesn't have
pub none_named : (P : List ℕ → Type 0) (name : List ℕ) → (P name → ⊥) → (names : List (List ℕ)) → AllByRecursion P names → list_any (pointwise nat_eq name) names ≡ false
none_named P name lacks names all = list_any-none (pointwise nat_eq name) names (each names all)
  where
    each : (xs : List (List ℕ)) → AllByRecursion P xs → AllByRecursion (λ x. pointwise nat_eq name x ≡ false) xs
    each [] h = tt
    each (x ∷ xs) h = (by (pointwise nat_eq name x) refl, each xs h.1)
      where
        by : (b : Bool) → pointwise nat_eq name x ≡ b → pointwise nat_eq name x ≡ false
        by false e = e
        by true e = absurd (lacks (subst P (sym ((bytes_decides name x).0 e)) h.0))

-- a property of all names of a device
abbrev pub HasNames : (List ℕ → Type 0) → NamedDevice (List ℕ) → Type 0
HasNames P d = P d.drain × P d.gate × P d.source

-- a property of all nets, and of all names of devices that are appended
pub all_nets : (P : List ℕ → Type 0) (c : CircuitData) (ds : List (NamedDevice (List ℕ))) → AllByRecursion P c.nets → AllByRecursion (HasNames P) ds → AllByRecursion P (with_devices c ds).nets
all_nets P c [] h p = h
all_nets P c (d ∷ ds) h p =
    all_nets P (pushed c d.kind d.drain d.gate d.source) ds
    (add (with_net (with_net c.nets d.drain) d.gate) d.source
    (add (with_net c.nets d.drain) d.gate (add c.nets d.drain h p.0.0) p.0.1) p.0.2) p.1
  where
    add : (nets : List (List ℕ)) (name : List ℕ) → AllByRecursion P nets → P name → AllByRecursion P (with_net nets name)
    add nets name all n = by (list_any (pointwise nat_eq name) nets)
      where
        by : (t : Bool) → AllByRecursion P (cond t nets (nets ++ name ∷ []))
        by true = all
        by false = AllByRecursion-append P nets (name ∷ []) all (n, tt)
