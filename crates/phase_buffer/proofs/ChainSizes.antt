-- How many buffers the cells of a deck have together, and how many devices the cells have with them.
use Rattle.std.specs.Prelude.{cond, count_by, if◌then◌else◌, slice_get, sum_by, ◌||◌}
use Rattle.std.specs.List.{list_any, range_with_len}
use Rattle.std.proofs.Common.{Bool, List, Some, [], add-one, add-zero, ap, arith, false, length, refl, subst, suc, sym, true, zero, ℕ, ◌*◌, ◌++◌, ◌+◌, ◌-◌, ◌<◌, ◌∙◌, ◌∷◌, ◌≡◌, ◌≤◌}
use Rattle.std.proofs.lemmas.List.{length-append}
use Rattle.std.proofs.lemmas.List.Sums.{sum_by-append, sum_by-cons}
use Rattle.clock_phase.specs.Levels.{greatest}
use Rattle.phase_buffer.specs.Chains.{Cells, chain, chain_length, clock_at, moved, place, reader_clocks, with_chains}
use Rattle.phase_buffer.specs.Sizes.{HasFewClocks}
use Rattle.phase_buffer.proofs.BufferedCells.{chain-length, reader_within, readers_below}

-- each thing passes the test of one number at most
module _ {Thing : Type 0} (of : ℕ → Thing → Bool) (one_of : (x : Thing) (j k : ℕ) → of j x ≡ true → of k x ≡ true → j ≡ k) where
  -- a number whose test some thing of the list passes
  abbrev pub some_of : List Thing → ℕ → Bool
  some_of xs k = list_any (of k) xs

  none_before : (x : Thing) (j a n : ℕ) → of j x ≡ true → j < a → count_by (λ k. of k x) (range_with_len a n) ≡ 0
  none_before x j a zero e l = refl
  none_before x j a (suc n) e l = go (of a x) refl (none_before x j (a + 1) n e (omega arith))
    where
      go : (b : Bool) → of a x ≡ b → count_by (λ k. of k x) (range_with_len (a + 1) n) ≡ 0
          → count_by (λ k. of k x) (range_with_len a (suc n)) ≡ 0
      go true f h = absurd (let same = one_of x j a e f in omega arith)
      go false f h = sum_by-cons (λ k. cond (of k x) 1 0) a (range_with_len (a + 1) n) ∙ rw f (omega (arith, h))

  one_number : (x : Thing) (a n : ℕ) → count_by (λ k. of k x) (range_with_len a n) ≤ 1
  one_number x a zero = omega arith
  one_number x a (suc n) = go (of a x) refl (one_number x (a + 1) n)
    where
      go : (b : Bool) → of a x ≡ b → count_by (λ k. of k x) (range_with_len (a + 1) n) ≤ 1
          → count_by (λ k. of k x) (range_with_len a (suc n)) ≤ 1
      go true f h =
          rw (sum_by-cons (λ k. cond (of k x) 1 0) a (range_with_len (a + 1) n), f)
          (let none = none_before x a (a + 1) n f (omega arith) in omega (arith, none))
      go false f h = rw (sum_by-cons (λ k. cond (of k x) 1 0) a (range_with_len (a + 1) n), f) (omega (arith, h))

  both_counts : (p q : ℕ → Bool) (ks : List ℕ) → count_by (λ k. p k || q k) ks ≤ count_by p ks + count_by q ks
  both_counts p q [] = omega arith
  both_counts p q (k ∷ ks) =
      let h = both_counts p q ks in let a = sum_by-cons (λ j. cond (p j || q j) 1 0) k ks in
      let b = sum_by-cons (λ j. cond (p j) 1 0) k ks in let c = sum_by-cons (λ j. cond (q j) 1 0) k ks in
      let l = go (p k) (q k) in omega (arith, h, a, b, c, l)
    where
      go : (a b : Bool) → cond (a || b) 1 0 ≤ cond a 1 0 + cond b 1 0
      go true b = go' (cond b 1 0)
        where
          go' : (n : ℕ) → 1 ≤ 1 + n
          go' n = omega arith
      go false b = omega arith

  none_at_all : (ks : List ℕ) → count_by (λ k. false) ks ≡ 0
  none_at_all [] = refl
  none_at_all (k ∷ ks) = let h = none_at_all ks in let e = sum_by-cons (λ (j : ℕ). cond false 1 0) k ks in omega (arith, h, e)

  -- so there are no more such numbers than things
  pub numbers_few : (xs : List Thing) (a n : ℕ) → count_by (some_of xs) (range_with_len a n) ≤ length xs
  numbers_few [] a n = let e = none_at_all (range_with_len a n) in omega (arith, e)
  numbers_few (x ∷ xs) a n =
      let both = both_counts (λ k. of k x) (some_of xs) (range_with_len a n) in
      omega (arith, both, one_number x a n, numbers_few xs a n)

module _ {Cell : Type 0} (d : Cells Cell) where
  -- the buffers of the cells from number k on
  abbrev pub buffer_count : ℕ → List Cell → ℕ
  buffer_count k [] = 0
  buffer_count k (c ∷ cs) = chain_length d k + buffer_count (suc k) cs

  pub chains_long : (k : ℕ) (cs : List Cell) → length (with_chains d k cs) ≡ length cs + buffer_count k cs
  chains_long k [] = refl
  chains_long k (c ∷ cs) =
      let more = chains_long (suc k) cs in
      let own = chain-length d (place d k) (d.clock c) (chain_length d k) in
      let both = length-append (chain d (place d k) (d.clock c) (chain_length d k)) (with_chains d (suc k) cs) in
      sum (length (chain d (place d k) (d.clock c) (chain_length d k) ++ with_chains d (suc k) cs))
      (length (chain d (place d k) (d.clock c) (chain_length d k))) (length (with_chains d (suc k) cs)) (length cs) (chain_length d k)
      (buffer_count (suc k) cs) both own more
    where
      sum : (t l m n a b : ℕ) → t ≡ l + m → l ≡ a → m ≡ n + b → suc t ≡ suc n + (a + b)
      sum t l m n a b x y z = omega arith

  -- where a buffer has six devices, and a cell as many as before
  module _ (devices : Cell → ℕ) (of_buffer : (at clock : ℕ) → devices (d.buffer at clock) ≡ 6)
      (of_moved : (c : Cell) → devices (moved d c) ≡ devices c) where
    devices_of_chain : (at clock n : ℕ) → sum_by devices (chain d at clock n) ≡ 6 * n
    devices_of_chain at clock zero = refl
    devices_of_chain at clock (suc n) =
        let more = devices_of_chain (at + 1) (clock + 1) n in
        sum (sum_by devices (chain d at clock (suc n))) (devices (d.buffer at (clock + 1)))
        (sum_by devices (chain d (at + 1) (clock + 1) n)) n
        (sum_by-cons devices (d.buffer at (clock + 1)) (chain d (at + 1) (clock + 1) n)) (of_buffer at (clock + 1)) more
      where
        sum : (t a b n : ℕ) → t ≡ a + b → a ≡ 6 → b ≡ 6 * n → t ≡ 6 * suc n
        sum t a b n x y z = omega arith

    pub devices_with_chains : (k : ℕ) (cs : List Cell) → sum_by devices (with_chains d k cs) ≡ sum_by devices cs + 6 * buffer_count k cs
    devices_with_chains k [] = refl
    devices_with_chains k (c ∷ cs) =
        let own = chain d (place d k) (d.clock c) (chain_length d k) in
        sum (sum_by devices (with_chains d k (c ∷ cs))) (devices (moved d c)) (devices c) (sum_by devices (own ++ with_chains d (suc k) cs))
        (sum_by devices own) (sum_by devices (with_chains d (suc k) cs)) (sum_by devices (c ∷ cs)) (sum_by devices cs) (chain_length d k)
        (buffer_count (suc k) cs)
        (sum_by-cons devices (moved d c) (own ++ with_chains d (suc k) cs)) (of_moved c)
        (sum_by-append devices own (with_chains d (suc k) cs)) (devices_of_chain (place d k) (d.clock c) (chain_length d k))
        (devices_with_chains (suc k) cs) (sum_by-cons devices c cs)
      where
        sum : (t m w x a b u v n l : ℕ) → t ≡ m + x → m ≡ w → x ≡ a + b → a ≡ 6 * n → b ≡ v + 6 * l → u ≡ w + v → t ≡ u + 6 * (n + l)
        sum t m w x a b u v n l p q r y z o = omega arith

  module _ (few : HasFewClocks d) where
    -- at most two buffers follow a cell, and at most one more where a sink takes from it
    pub chain_most : (k : ℕ) (c : Cell) → slice_get d.cells k ≡ Some c → chain_length d k ≤ 2 + cond (d.is_taken k) 1 0
    chain_most k c e = go (d.is_taken k) refl
      where
        readers : greatest (reader_clocks d k d.cells) ≤ d.last
        readers = readers_below d k d.last d.cells (λ j b f. (few.clocks_are j b f).1)

        own : d.first ≤ d.clock c
        own = (few.clocks_are k c e).0

        taken : (last first clock : ℕ) → last ≤ first + 3 → first ≤ clock → last - clock ≤ 3
        taken last first clock a b = omega arith

        free : (most last first clock : ℕ) → most ≤ last → last ≤ first + 3 → first ≤ clock → most - 1 - clock ≤ 2
        free most last first clock l a b = omega arith

        go : (b : Bool) → d.is_taken k ≡ b → (if d.is_taken k then d.last else greatest (reader_clocks d k d.cells) - 1) - clock_at d
            (slice_get d.cells k) ≤ 2 + cond (d.is_taken k) 1 0
        go true f = rw (f, e) (taken d.last d.first (d.clock c) few.few own)
        go false f = rw (f, e) (free (greatest (reader_clocks d k d.cells)) d.last d.first (d.clock c) readers few.few own)

    -- a chain ends by the last clock
    pub chain_by_last : (k : ℕ) (c : Cell) → slice_get d.cells k ≡ Some c → d.clock c + chain_length d k ≤ d.last
    chain_by_last k c e = go (d.is_taken k) refl
      where
        readers : greatest (reader_clocks d k d.cells) ≤ d.last
        readers = readers_below d k d.last d.cells (λ j b f. (few.clocks_are j b f).1)

        own : d.clock c ≤ d.last
        own = (few.clocks_are k c e).1

        sum : (clock most last : ℕ) → most ≤ last → clock ≤ last → clock + (most - clock) ≤ last
        sum clock most last a b = omega arith

        less : (most last : ℕ) → most ≤ last → most - 1 ≤ last
        less most last a = omega arith

        go : (b : Bool) → d.is_taken k ≡ b
            → d.clock c + ((if d.is_taken k then d.last else greatest (reader_clocks d k d.cells) - 1) - clock_at d (slice_get d.cells k))
            ≤ d.last
        go true f = rw (f, e) (sum (d.clock c) d.last d.last (omega arith) own)
        go false f = rw (f, e) (sum (d.clock c) (greatest (reader_clocks d k d.cells) - 1) d.last
            (less (greatest (reader_clocks d k d.cells)) d.last readers) own)

    -- and goes up to the clock before each of its readers'
    pub reader_reached : (j : ℕ) (b : Cell) → slice_get d.cells j ≡ Some b → (m : ℕ) (c : Cell) → slice_get d.cells m ≡ Some c
        → d.reads j c ≡ true
        → d.clock c - 1 - clock_at d (slice_get d.cells j) ≤ chain_length d j
    reader_reached j b e m c f r = go (d.is_taken j) refl
      where
        within : d.clock c ≤ greatest (reader_clocks d j d.cells)
        within = reader_within d j d.cells m c f r

        own : d.clock c ≤ d.last
        own = (few.clocks_are m c f).1

        most : (a b x : ℕ) → a ≤ b → a - 1 - x ≤ b - x
        most a b x l = omega arith

        less : (a b x : ℕ) → a ≤ b → a - 1 - x ≤ b - 1 - x
        less a b x l = omega arith

        go : (v : Bool) → d.is_taken j ≡ v → d.clock c - 1 - clock_at d (slice_get d.cells j)
            ≤ (if d.is_taken j then d.last else greatest (reader_clocks d j d.cells) - 1) - clock_at d (slice_get d.cells j)
        go true v = rw v (most (d.clock c) d.last (clock_at d (slice_get d.cells j)) own)
        go false v = rw v (less (d.clock c) (greatest (reader_clocks d j d.cells)) (clock_at d (slice_get d.cells j)) within)

    count_most : (k : ℕ) (cs : List Cell) → ((i : ℕ) (c : Cell) → slice_get cs i ≡ Some c → slice_get d.cells (k + i) ≡ Some c)
        → buffer_count k cs ≤ 2 * length cs + count_by d.is_taken (range_with_len k (length cs))
    count_most k [] there = omega arith
    count_most k (c ∷ cs) there =
        let own = chain_most k c (subst (λ n. slice_get d.cells n ≡ Some c) (add-zero k) (there 0 c refl)) in
        let more = count_most (suc k) cs (λ i b f. subst (λ n. slice_get d.cells n ≡ Some b) (shift k i) (there (suc i) b f)) in
        sum (chain_length d k) (buffer_count (suc k) cs) (cond (d.is_taken k) 1 0) (length cs)
        (count_by d.is_taken (range_with_len (suc k) (length cs))) (count_by d.is_taken (range_with_len k (suc (length cs))))
        own more
        (sum_by-cons (λ j. cond (d.is_taken j) 1 0) k (range_with_len (k + 1) (length cs))
        ∙ ap (λ j. cond (d.is_taken k) 1 0 + count_by d.is_taken (range_with_len j (length cs))) (add-one k))
      where
        shift : (k i : ℕ) → k + suc i ≡ suc k + i
        shift k i = omega arith

        sum : (own more one n x t : ℕ) → own ≤ 2 + one → more ≤ 2 * n + x → t ≡ one + x → own + more ≤ 2 * suc n + t
        sum own more one n x t a b e = omega arith

    pub buffers_most : buffer_count 0 d.cells ≤ 2 * length d.cells + count_by d.is_taken (range_with_len 0 (length d.cells))
    buffers_most = count_most 0 d.cells (λ i c e. subst (λ n. slice_get d.cells n ≡ Some c) (sym (from_zero i)) e)
      where
        from_zero : (i : ℕ) → 0 + i ≡ i
        from_zero i = omega arith
