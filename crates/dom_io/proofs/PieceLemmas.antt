-- Texts that are put piece by piece, whole or in part.
use Rattle.std.proofs.Common.{ℕ, ◌+◌, ◌≤◌, List, ◌++◌, Option, None, Some, length, take, drop, ap, ◌∙◌, append_assoc, arith, length-append}
use Rattle.std.proofs.Math.Seq.{take-add, take-append-add}
use Rattle.std.proofs.lemmas.List.{take-append-le}
use Rattle.std.specs.Io.KnownBytes.{Appends}
use Rattle.dom_io.specs.Pieces.{AppendsPrefix}

-- some bytes, and then some more
pub Appends-then : (a b c : Option (List ℕ)) (xs ys : List ℕ) → Appends a b xs → Appends b c ys → Appends a c (xs ++ ys)
Appends-then None b c xs ys h k = tt
Appends-then (Some x) None c xs ys h k = absurd h
Appends-then (Some x) (Some y) None xs ys h k = k
Appends-then (Some x) (Some y) (Some z) xs ys h k = k ∙ ap (λ l. l ++ ys) h ∙ append_assoc x xs ys

-- the first i bytes, and then n more
pub Appends-more : (a b c : Option (List ℕ)) (bytes : List ℕ) (i n : ℕ) → Appends a b (take i bytes) → Appends b c (take n (drop i bytes)) → Appends a c (take (i + n) bytes)
Appends-more a b c bytes i n h k = rw (take-add i n bytes) (Appends-then a b c (take i bytes) (take n (drop i bytes)) h k)

-- some bytes, and then a part of some more
pub AppendsPrefix-then : (a b c : Option (List ℕ)) (xs ys : List ℕ) → Appends a b xs → AppendsPrefix b c ys → AppendsPrefix a c (xs ++ ys)
AppendsPrefix-then a b c xs ys h k = record {
  count = length xs + k.count;
  part = omega (arith, length-append xs ys, k.part);
  grown = rw (take-append-add xs ys k.count) (Appends-then a b c xs (take k.count ys) h k.grown);
}

-- a part of the front is a part of the whole
pub AppendsPrefix-front : (a b : Option (List ℕ)) (xs ys : List ℕ) → AppendsPrefix a b xs → AppendsPrefix a b (xs ++ ys)
AppendsPrefix-front a b xs ys h =
    let low : h.count ≤ length xs = omega (arith, h.part) in
    record {
      count = h.count;
      part = omega (arith, length-append xs ys, h.part);
      grown = rw (take-append-le h.count xs ys) h.grown;
    }

-- for a function that puts several texts one after another
pub ruleset put_twice = (AppendsPrefix-then, AppendsPrefix-front)
