-- Where the cells and their buffers stand.
use Rattle.std.specs.Prelude.{Some, slice_get, ◌⊎◌}
use Rattle.std.proofs.Common.{Bool, List, [], add-zero, ap, arith, false, inl, inr, length, refl, subst, suc, sym, true, zero, ℕ, ◌++◌, ◌+◌, ◌-◌, ◌<◌, ◌∙◌, ◌∷◌, ◌≡◌, ◌≤◌, ap₂, zero-add}
use Rattle.dom_base.proofs.Decided.{lt_or_ge}
use Rattle.dom_base.proofs.Lists.{slice_get-append, slice_get-behind}
use Rattle.clock_phase.specs.Levels.{greatest}
use Rattle.phase_buffer.specs.Chains.{Cells, chain, chain_length, moved, place, reader_clocks, taken_at, with_chains}

module _ {Cell : Type 0} (deck : Cells Cell) where
  abbrev pub buffer_cell : ℕ → ℕ → ℕ → Cell
  buffer_cell at clock j = deck.buffer (at + j) (clock + 1 + j)

  -- the cells, and the cells with their chains
  abbrev pub IsOldAt : ℕ → Cell → Type 0
  IsOldAt k c = slice_get deck.cells k ≡ Some c

  abbrev pub IsNewAt : ℕ → Cell → Type 0
  IsNewAt k c = slice_get (with_chains deck 0 deck.cells) k ≡ Some c

  pub chain-length : (at clock n : ℕ) → length (chain deck at clock n) ≡ n
  chain-length at clock zero = refl
  chain-length at clock (suc n) = ap (λ m. suc m) (chain-length (at + 1) (clock + 1) n)

  chain-get : (at clock n j : ℕ) → j < n → slice_get (chain deck at clock n) j ≡ Some (buffer_cell at clock j)
  chain-get at clock zero j l = absurd (omega arith)
  chain-get at clock (suc n) zero l = ap₂ (λ a b. Some (deck.buffer b a)) (sym (add-zero (clock + 1))) (sym (add-zero at))
  chain-get at clock (suc n) (suc j) l =
      chain-get (at + 1) (clock + 1) n j (omega arith)
      ∙ ap₂ (λ a b. Some (deck.buffer b a)) (shift clock j) (shift' at j)
    where
      shift : (c j : ℕ) → c + 1 + 1 + j ≡ c + 1 + suc j
      shift c j = omega arith

      shift' : (c j : ℕ) → c + 1 + j ≡ c + suc j
      shift' c j = omega arith

  -- from the place of cell k to that of the i-th cell behind it
  gap : ℕ → ℕ → ℕ
  gap k zero = 0
  gap k (suc i) = suc (chain_length deck k + gap (suc k) i)

  place_gap : (i k : ℕ) → place deck (k + i) ≡ place deck k + gap k i
  unfolding gap
  place_gap zero k = ap (place deck) (add-zero k) ∙ sym (add-zero (place deck k))
  place_gap (suc i) k =
      ap (place deck) (shift k i) ∙ (place_gap i (suc k) ∙ sum (place deck k) (chain_length deck k) (gap (suc k) i))
    where
      shift : (k i : ℕ) → k + suc i ≡ suc k + i
      shift k i = omega arith

      sum : (p l g : ℕ) → p + 1 + l + g ≡ p + suc (l + g)
      sum p l g = omega arith

  get_cell : (cs : List Cell) (k i : ℕ) (c : Cell) → slice_get cs i ≡ Some c → slice_get (with_chains deck k cs) (gap k i) ≡ Some (moved deck c)
  unfolding gap
  get_cell [] k i c e = absurd (cc)
  get_cell (d ∷ cs) k zero c e = let z : d ≡ c = cc in ap (λ x. Some (moved deck x)) z
  get_cell (d ∷ cs) k (suc i) c e =
      subst (λ n. slice_get (chain deck (place deck k) (deck.clock d) (chain_length deck k) ++ with_chains deck (suc k) cs) (n + gap (suc k) i) ≡ Some (moved deck c)) (chain-length (place deck k) (deck.clock d) (chain_length deck k))
      (slice_get-behind (chain deck (place deck k) (deck.clock d) (chain_length deck k)) (with_chains deck (suc k) cs) (gap (suc k) i) ∙ get_cell cs (suc k) i c e)

  get_buffer : (cs : List Cell) (k i j : ℕ) (c : Cell) → slice_get cs i ≡ Some c → j < chain_length deck (k + i)
      → slice_get (with_chains deck k cs) (suc (gap k i + j)) ≡ Some (buffer_cell (place deck (k + i)) (deck.clock c) j)
  unfolding gap
  get_buffer [] k i j c e l = absurd (cc)
  get_buffer (d ∷ cs) k zero j c e l =
      let z : d ≡ c = cc in
      let m : j < chain_length deck k = subst (λ n. j < chain_length deck n) (add-zero k) l in
      subst (λ q. slice_get (chain deck (place deck k) (deck.clock d) (chain_length deck k) ++ with_chains deck (suc k) cs) q ≡ Some (buffer_cell (place deck (k + 0)) (deck.clock c) j)) (sym (zero-add j))
      (subst (λ n. slice_get (chain deck (place deck k) (deck.clock d) (chain_length deck k) ++ with_chains deck (suc k) cs) j ≡ Some (buffer_cell (place deck n) (deck.clock c) j)) (sym (add-zero k))
      (slice_get-append (chain deck (place deck k) (deck.clock d) (chain_length deck k)) (with_chains deck (suc k) cs) j (buffer_cell (place deck k) (deck.clock c) j)
      (chain-get (place deck k) (deck.clock d) (chain_length deck k) j m ∙ ap (λ (x : Cell). Some (buffer_cell (place deck k) (deck.clock x) j)) z)))
  get_buffer (d ∷ cs) k (suc i) j c e l =
      let m : j < chain_length deck (suc k + i) = subst (λ n. j < chain_length deck n) (shift k i) l in
      subst (λ n. slice_get (chain deck (place deck k) (deck.clock d) (chain_length deck k) ++ with_chains deck (suc k) cs) n ≡ Some (buffer_cell (place deck (k + suc i)) (deck.clock c) j))
      (sum (length (chain deck (place deck k) (deck.clock d) (chain_length deck k))) (chain_length deck k) (gap (suc k) i) (chain-length (place deck k) (deck.clock d) (chain_length deck k)))
      (slice_get-behind (chain deck (place deck k) (deck.clock d) (chain_length deck k)) (with_chains deck (suc k) cs) (suc (gap (suc k) i + j))
      ∙ (get_buffer cs (suc k) i j c e m ∙ ap (λ n. Some (buffer_cell (place deck n) (deck.clock c) j)) (sym (shift k i))))
    where
      shift : (k i : ℕ) → k + suc i ≡ suc k + i
      shift k i = omega arith

      sum : (n l g : ℕ) → n ≡ l → n + suc (g + j) ≡ suc (l + g) + j
      sum n l g z = omega arith

  -- each new cell is an old one at its place, or one of its chain
  pub record IsNewCell (m : ℕ) (d : Cell) : Type 0 where
    pub old : ℕ
    pub cell : Cell
    pub cell_is : IsOldAt old cell
    pub of : ((m ≡ place deck old) × (d ≡ moved deck cell)) ⊎ ((j : ℕ) × (j < chain_length deck old) × (m ≡ place deck old + suc j) × (d ≡ buffer_cell (place deck old) (deck.clock cell) j))

  found : (cs : List Cell) (k m : ℕ) (d : Cell) → ((i : ℕ) (c : Cell) → slice_get cs i ≡ Some c → IsOldAt (k + i) c)
      → slice_get (with_chains deck k cs) m ≡ Some d → IsNewCell (place deck k + m) d
  found [] k m d at e = absurd (cc)
  found (c ∷ cs) k zero d at e =
      let z : moved deck c ≡ d = cc in
      record { old = k; cell = c; cell_is = subst (λ n. IsOldAt n c) (add-zero k) (at 0 c refl); of = inl (add-zero (place deck k), sym z) }
  found (c ∷ cs) k (suc m) d at e =
      elim (lt_or_ge m (chain_length deck k)) [
        | inl l ↦
            let w : Some (buffer_cell (place deck k) (deck.clock c) m) ≡ Some d =
            sym (slice_get-append (chain deck (place deck k) (deck.clock c) (chain_length deck k)) (with_chains deck (suc k) cs) m _ (chain-get (place deck k) (deck.clock c) (chain_length deck k) m l)) ∙ e in
            let z : buffer_cell (place deck k) (deck.clock c) m ≡ d = cc in
            record { old = k; cell = c; cell_is = subst (λ n. IsOldAt n c) (add-zero k) (at 0 c refl); of = inr (m, l, refl, sym z) }
        | inr g ↦ subst (λ n. IsNewCell n d) (sum (place deck k) (chain_length deck k) m g)
            (found cs (suc k) (m - chain_length deck k) d (λ i b f. subst (λ n. IsOldAt n b) (shift k i) (at (suc i) b f))
            (sym (slice_get-behind (chain deck (place deck k) (deck.clock c) (chain_length deck k)) (with_chains deck (suc k) cs) (m - chain_length deck k))
            ∙ (ap (slice_get (chain deck (place deck k) (deck.clock c) (chain_length deck k) ++ with_chains deck (suc k) cs))
            (back (length (chain deck (place deck k) (deck.clock c) (chain_length deck k))) (chain_length deck k) m (chain-length (place deck k) (deck.clock c) (chain_length deck k)) g) ∙ e)))
      ]
    where
      shift : (k i : ℕ) → k + suc i ≡ suc k + i
      shift k i = omega arith

      sum : (p l m : ℕ) → l ≤ m → p + 1 + l + (m - l) ≡ p + suc m
      sum p l m g = omega arith

      back : (n l m : ℕ) → n ≡ l → l ≤ m → n + (m - l) ≡ m
      back n l m z g = omega arith

  pub any_new : (m : ℕ) (d : Cell) → IsNewAt m d → IsNewCell m d
  any_new m d e = subst (λ n. IsNewCell n d) (zero_plus m) (found deck.cells 0 m d (λ i c f. subst (λ n. IsOldAt n c) (sym (zero_plus i)) f) e)
    where
      zero_plus : (m : ℕ) → 0 + m ≡ m
      zero_plus m = omega arith

  zero_place : (k : ℕ) → gap 0 k ≡ place deck k
  zero_place k = sym (ap (place deck) (zero_plus k) ∙ place_gap k 0 ∙ sym (zero_plus (gap 0 k)))
    where
      zero_plus : (m : ℕ) → m ≡ 0 + m
      zero_plus m = omega arith

  pub new_cell : (k : ℕ) (c : Cell) → IsOldAt k c → IsNewAt (place deck k) (moved deck c)
  new_cell k c e = subst (λ m. IsNewAt m (moved deck c)) (zero_place k) (get_cell deck.cells 0 k c e)

  pub new_buffer : (k j : ℕ) (c : Cell) → IsOldAt k c → j < chain_length deck k → IsNewAt (place deck k + suc j) (buffer_cell (place deck k) (deck.clock c) j)
  new_buffer k j c e l =
      subst (λ m. IsNewAt m (buffer_cell (place deck k) (deck.clock c) j)) (sum (gap 0 k) (place deck k) (zero_place k))
      (subst (λ n. IsNewAt (suc (gap 0 k + j)) (buffer_cell (place deck n) (deck.clock c) j)) (zero_plus k) (get_buffer deck.cells 0 k j c e (subst (λ n. j < chain_length deck n) (sym (zero_plus k)) l)))
    where
      zero_plus : (m : ℕ) → 0 + m ≡ m
      zero_plus m = omega arith

      sum : (g p : ℕ) → g ≡ p → suc (g + j) ≡ p + suc j
      sum g p z = omega arith

  -- the h-th of a cell and its chain, with its clock
  pub chain_at : ((at clock : ℕ) → deck.clock (deck.buffer at clock) ≡ clock) → ((number : ℕ → ℕ) (c : Cell) → deck.clock (deck.reading number c) ≡ deck.clock c)
      → (k : ℕ) (c : Cell) → IsOldAt k c → (h : ℕ) → h ≤ chain_length deck k → (d : Cell) × IsNewAt (place deck k + h) d × (deck.clock d ≡ deck.clock c + h)
  chain_at of_buffer of_moved k c e zero l =
      (moved deck c, subst (λ m. IsNewAt m (moved deck c)) (sym (add-zero (place deck k))) (new_cell k c e), of_moved (taken_at deck (deck.clock c)) c ∙ sym (add-zero (deck.clock c)))
  chain_at of_buffer of_moved k c e (suc j) l =
      (buffer_cell (place deck k) (deck.clock c) j, new_buffer k j c e (omega arith), of_buffer (place deck k + j) (deck.clock c + 1 + j) ∙ sum (deck.clock c) j)
    where
      sum : (a j : ℕ) → a + 1 + j ≡ a + suc j
      sum a j = omega arith

  -- a later cell has a later place, behind the chains of those before it
  pub place_after : (n j : ℕ) → place deck j + chain_length deck j < place deck (j + suc n)
  place_after zero j = subst (λ m. place deck j + chain_length deck j < place deck m) (plus j) (below (place deck j) (chain_length deck j))
    where
      plus : (j : ℕ) → suc j ≡ j + 1
      plus j = omega arith

      below : (p l : ℕ) → p + l < p + 1 + l
      below p l = omega arith
  place_after (suc n) j =
      let a = place_after n j in
      subst (λ m. place deck j + chain_length deck j < place deck m) (plus j n) (further (place deck j + chain_length deck j) (place deck (j + suc n)) (chain_length deck (j + suc n)) a)
    where
      plus : (j n : ℕ) → suc (j + suc n) ≡ j + suc (suc n)
      plus j n = omega arith

      further : (x p l : ℕ) → x < p → x < p + 1 + l
      further x p l a = omega arith

  pub place_below : (j k : ℕ) → j < k → place deck j + chain_length deck j < place deck k
  place_below j k l = subst (λ m. place deck j + chain_length deck j < place deck m) (sum j k l) (place_after (k - suc j) j)
    where
      sum : (j k : ℕ) → j < k → j + suc (k - suc j) ≡ k
      sum j k l = omega arith

  pub one_cell : (k : ℕ) (c d : Cell) → IsOldAt k c → IsOldAt k d → c ≡ d
  one_cell k c d e f = let z : Some c ≡ Some d = sym e ∙ f in cc

  pub one_new : (k : ℕ) (c d : Cell) → IsNewAt k c → IsNewAt k d → c ≡ d
  one_new k c d e f = let z : Some c ≡ Some d = sym e ∙ f in cc

  -- the clock of a reader is one of the readers'
  pub reader_within : (j : ℕ) (cs : List Cell) (k : ℕ) (c : Cell) → slice_get cs k ≡ Some c → deck.reads j c ≡ true → deck.clock c ≤ greatest (reader_clocks deck j cs)
  reader_within j [] k c e r = absurd (cc)
  reader_within j (d ∷ cs) zero c e r = let z : d ≡ c = cc in rw (z, r) (omega arith)
  reader_within j (d ∷ cs) (suc k) c e r = let l = reader_within j cs k c e r in go (deck.reads j d) refl l
    where
      go : (b : Bool) → deck.reads j d ≡ b → deck.clock c ≤ greatest (reader_clocks deck j cs) → deck.clock c ≤ greatest (reader_clocks deck j (d ∷ cs))
      go true w l = rw w (omega arith)
      go false w l = rw w l

  pub readers_below : (j n : ℕ) (cs : List Cell) → ((k : ℕ) (c : Cell) → slice_get cs k ≡ Some c → deck.clock c ≤ n) → greatest (reader_clocks deck j cs) ≤ n
  readers_below j n [] h = omega arith
  readers_below j n (d ∷ cs) h = let l = readers_below j n cs (λ k c e. h (suc k) c e) in let m = h 0 d refl in go (deck.reads j d) refl l m
    where
      go : (b : Bool) → deck.reads j d ≡ b → greatest (reader_clocks deck j cs) ≤ n → deck.clock d ≤ n → greatest (reader_clocks deck j (d ∷ cs)) ≤ n
      go true w l m = rw w (omega arith)
      go false w l m = rw w l
