-- What each step of a traversal keeps.
use Rattle.std.proofs.Common.{◌≡◌, ℕ, zero, suc, ◌<◌, ◌≤◌, ◌+◌, ◌-◌, ◌⊎◌, inl, inr, Bool, true, false, List, [], ◌∷◌, ◌++◌, length, replicate, reverse, take, set, Some, None, refl, ap, sym, ◌∙◌, subst, arith}
use Rattle.std.specs.Prelude.{Contains, slice_get}
use Rattle.std.specs.List.{AllByRecursion}
use Rattle.std.proofs.Math.Seq.{take-append_seam, take-length}
use Rattle.std.proofs.lemmas.List.{length-replicate, length-set, take-append-le}
use Rattle.std.proofs.lemmas.List.Elements.{All-contains, Contains-append_left, Contains-append_right}
use Rattle.std.proofs.lemmas.Bool.{cases_eq}
use Rattle.std.proofs.lemmas.Option.{slice_get_within}
use Rattle.dom_base.proofs.Lists.{AllByRecursion-append, AllByRecursion-left, AllByRecursion-right, AllByRecursion-weaker, Contains-first, Contains-later, Contains-slice_get, slice_get-push_cases}
use Rattle.graph_order.specs.declared.traversal.Frame.{Frame}
use Rattle.graph_order.specs.declared.traversal.Mark.{Mark}
use Rattle.graph_order.specs.declared.traversal.Mark.TheVariants.{New, Open, Done}
use Rattle.graph_order.specs.Orders.{IsGraph, IsSuccessor, IsOrder, LeadsOn, more, successors, step}
use Rattle.graph_order.specs.Traversals.{GoesOn, IsAdvance, IsDoneBelow, IsFresh, IsSeen, IsSound, IsTrail, IsVisiting, HasVisited, IsWay, TraversalData, with_finished, frame_successors, looked, new_successors, nodes_of, with_opened, with_frame}
use Rattle.graph_order.proofs.Lists.{contains_cons, get_set, none_past, reverse_push, take_next}

module _ (nodes : List (List ℕ)) where
  -- more is done
  trail_kept : (done after : List ℕ) → ((n : ℕ) → Contains done n → Contains after n) → (child : ℕ) (fs : List Frame) → IsTrail nodes done child fs → IsTrail nodes after child fs
  trail_kept done after kept child [] t = tt
  trail_kept done after kept child (f ∷ below) t =
      (t.0, t.1, AllByRecursion-weaker (Contains done) (Contains after) kept (take (f.next - 1) (successors nodes f.node)) t.2, trail_kept done after kept f.node below t.3)

  -- the way behind a node that is done
  way_behind : (done after : List ℕ) → ((n : ℕ) → Contains done n → Contains after n) → (child : ℕ) → Contains after child
      → (fs : List Frame) → IsTrail nodes done child fs → IsWay nodes after fs
  way_behind done after kept child c [] t = tt
  way_behind done after kept child c (f ∷ below) t = (looked_at, trail_kept done after kept f.node below t.3)
    where
      back : f.next - 1 + 1 ≡ f.next
      back = omega (arith, t.0)

      looked_at : AllByRecursion (Contains after) (take f.next (successors nodes f.node))
      looked_at = subst (λ n. AllByRecursion (Contains after) (take n (successors nodes f.node))) back
          (subst (AllByRecursion (Contains after)) (sym (take_next (successors nodes f.node) (f.next - 1) child t.1))
          (AllByRecursion-append (Contains after) (take (f.next - 1) (successors nodes f.node)) (child ∷ [])
          (AllByRecursion-weaker (Contains done) (Contains after) kept (take (f.next - 1) (successors nodes f.node)) t.2) (c, tt)))

  pub leads_then : {a b : ℕ} → LeadsOn nodes a b → (c : ℕ) → IsSuccessor nodes b c → LeadsOn nodes a c
  leads_then (step n) c m = more n (step m)
  leads_then (more n rest) c m = more n (leads_then rest c m)

  -- nodes on the way lead to the node at its end
  way_leads : (done : List ℕ) (child : ℕ) (fs : List Frame) → IsTrail nodes done child fs → (a : ℕ) → Contains (nodes_of fs) a → LeadsOn nodes a child
  way_leads done child [] t a (k, l, e) = absurd (omega (arith, l))
  way_leads done child (f ∷ below) t a c = by (way_leads done f.node below t.3 a) (contains_cons f.node (nodes_of below) a c)
    where
      last : IsSuccessor nodes f.node child
      last = Contains-slice_get (successors nodes f.node) (f.next - 1) child t.1

      by : (Contains (nodes_of below) a → LeadsOn nodes a f.node) → (f.node ≡ a) ⊎ Contains (nodes_of below) a → LeadsOn nodes a child
      by deeper (inl is) = subst (λ b. LeadsOn nodes b child) is (step last)
      by deeper (inr later) = leads_then (deeper later) child last

  -- the steps that remain

  frame_successors-push : (fs : List Frame) (f : Frame) → frame_successors nodes (fs ++ f ∷ []) ≡ frame_successors nodes fs + (length (successors nodes f.node) + 1 - f.next)
  frame_successors-push [] f = omega arith
  frame_successors-push (g ∷ fs) f = omega (arith, frame_successors-push fs f)

  new_successors-done : (marks : List Mark) (all : List (List ℕ)) (k : ℕ) → new_successors (set marks k Done) all ≤ new_successors marks all
  new_successors-done [] all k = omega arith
  new_successors-done (New ∷ marks) [] zero = omega arith
  new_successors-done (Open ∷ marks) [] zero = omega arith
  new_successors-done (Done ∷ marks) [] zero = omega arith
  new_successors-done (New ∷ marks) (n ∷ all) zero = omega arith
  new_successors-done (Open ∷ marks) (n ∷ all) zero = omega arith
  new_successors-done (Done ∷ marks) (n ∷ all) zero = omega arith
  new_successors-done (New ∷ marks) [] (suc k) = omega arith
  new_successors-done (Open ∷ marks) [] (suc k) = omega arith
  new_successors-done (Done ∷ marks) [] (suc k) = omega arith
  new_successors-done (New ∷ marks) (n ∷ all) (suc k) = omega (arith, new_successors-done marks all k)
  new_successors-done (Open ∷ marks) (n ∷ all) (suc k) = new_successors-done marks all k
  new_successors-done (Done ∷ marks) (n ∷ all) (suc k) = new_successors-done marks all k

  new_successors-open : (marks : List Mark) (all : List (List ℕ)) (k : ℕ) → length marks ≡ length all → slice_get marks k ≡ Some New
      → new_successors (set marks k Open) all + (length (successors all k) + 2) ≡ new_successors marks all
  new_successors-open [] all k same e = absurd cc
  new_successors-open (m ∷ marks) [] k same e = absurd (omega (arith, same))
  new_successors-open (New ∷ marks) (n ∷ all) zero same e = omega arith
  new_successors-open (Open ∷ marks) (n ∷ all) zero same e = absurd cc
  new_successors-open (Done ∷ marks) (n ∷ all) zero same e = absurd cc
  new_successors-open (New ∷ marks) (n ∷ all) (suc k) same e = omega (arith, new_successors-open marks all k (omega (arith, same)) e)
  new_successors-open (Open ∷ marks) (n ∷ all) (suc k) same e = new_successors-open marks all k (omega (arith, same)) e
  new_successors-open (Done ∷ marks) (n ∷ all) (suc k) same e = new_successors-open marks all k (omega (arith, same)) e

  open_is_done : Open ≡ Done → ⊥
  open_is_done e = absurd cc

  done_is_open : Done ≡ Open → ⊥
  done_is_open e = absurd cc

  -- a new node on any way: what is to be seen of its marks
  opened_on_way : (v : TraversalData) (child : ℕ) → ((node : ℕ) → slice_get v.marks node ≡ Some Open → Contains (nodes_of (reverse v.stack)) node)
      → (node : ℕ) → slice_get (set v.marks child Open) node ≡ Some Open → Contains (nodes_of (reverse (v.stack ++ record { node = child; next = 0 } ∷ []))) node
  opened_on_way v child before node e =
      subst (λ l. Contains (nodes_of l) node) (sym (reverse_push v.stack (record { node = child; next = 0 })))
      (elim (get_set v.marks child node Open Open e) [
        | inl h ↦ subst (Contains (child ∷ nodes_of (reverse v.stack))) (sym h.0) (Contains-first child (nodes_of (reverse v.stack)))
        | inr h ↦ Contains-later child (nodes_of (reverse v.stack)) node (before node h.1)
      ])

  opened_done : (v : TraversalData) (child : ℕ) → ((node : ℕ) → slice_get v.marks node ≡ Some Done → Contains v.done node)
      → (node : ℕ) → slice_get (set v.marks child Open) node ≡ Some Done → Contains v.done node
  opened_done v child before node e = elim (get_set v.marks child node Open Done e) [
    | inl h ↦ absurd (open_is_done h.1)
    | inr h ↦ before node h.1
  ]

  opened_seen : (v : TraversalData) (child node : ℕ) → IsSeen v node → IsSeen (with_opened v child) node
  opened_seen v child node (inl c) = inl (subst (λ l. Contains (nodes_of l) node) (sym (reverse_push v.stack (record { node = child; next = 0 }))) (Contains-later child (nodes_of (reverse v.stack)) node c))
  opened_seen v child node (inr c) = inr c

  opened_is_met : (v : TraversalData) (child : ℕ) → IsSeen (with_opened v child) child
  opened_is_met v child = inl (subst (λ l. Contains (nodes_of l) child) (sym (reverse_push v.stack (record { node = child; next = 0 }))) (Contains-first child (nodes_of (reverse v.stack))))

  -- the first node of a traversal that has nothing on the way
  pub first_opened : (v : TraversalData) (child : ℕ) → child < length nodes → v.stack ≡ [] → IsSound nodes v → IsSound nodes (with_opened v child)
  first_opened v child l ended sound = record {
    marks = length-set v.marks child Open ∙ sound.marks;
    way = subst (λ s. IsWay nodes v.done (reverse (s ++ record { node = child; next = 0 } ∷ []))) (sym ended) (tt, tt);
    on_way = opened_on_way v child sound.on_way;
    are_done = opened_done v child sound.are_done;
    inside = AllByRecursion-append (λ (g : Frame). (g.node < length nodes) × (g.next ≤ length (successors nodes g.node))) v.stack (record { node = child; next = 0 } ∷ []) sound.inside ((l, omega arith), tt);
    earlier = sound.earlier;
  }

  module _ (w : TraversalData) (f : Frame) (sound : IsSound nodes (with_frame w f)) where
    way : IsWay nodes w.done (f ∷ reverse w.stack)
    way = subst (IsWay nodes w.done) (reverse_push w.stack f) sound.way

    on_way : (node : ℕ) → slice_get w.marks node ≡ Some Open → Contains (nodes_of (f ∷ reverse w.stack)) node
    on_way node e = subst (λ l. Contains (nodes_of l) node) (reverse_push w.stack f) (sound.on_way node e)

    inside_rest : AllByRecursion (λ (g : Frame). (g.node < length nodes) × (g.next ≤ length (successors nodes g.node))) w.stack
    inside_rest = AllByRecursion-left (λ (g : Frame). (g.node < length nodes) × (g.next ≤ length (successors nodes g.node))) w.stack (f ∷ []) sound.inside

    inside_top : (f.node < length nodes) × (f.next ≤ length (successors nodes f.node))
    inside_top = (AllByRecursion-right (λ (g : Frame). (g.node < length nodes) × (g.next ≤ length (successors nodes g.node))) w.stack (f ∷ []) sound.inside).0

    met_before : (node : ℕ) → IsSeen (with_frame w f) node → Contains (nodes_of (f ∷ reverse w.stack)) node ⊎ Contains w.done node
    met_before node (inl c) = inl (subst (λ l. Contains (nodes_of l) node) (reverse_push w.stack f) c)
    met_before node (inr c) = inr c

    -- the node of the top frame is done
    module _ (none : slice_get (successors nodes f.node) f.next ≡ None) where
      all : f.next ≡ length (successors nodes f.node)
      all = omega (arith, none_past (successors nodes f.node) f.next none, inside_top.1)

      kept : (n : ℕ) → Contains w.done n → Contains (w.done ++ f.node ∷ []) n
      kept n c = Contains-append_left w.done (f.node ∷ []) n c

      new_done : Contains (w.done ++ f.node ∷ []) f.node
      new_done = Contains-append_right w.done (f.node ∷ []) f.node (Contains-first f.node [])

      finish_on_way : (node : ℕ) → slice_get (set w.marks f.node Done) node ≡ Some Open → Contains (nodes_of (reverse w.stack)) node
      finish_on_way node e = elim (get_set w.marks f.node node Done Open e) [
        | inl h ↦ absurd (done_is_open h.1)
        | inr h ↦ elim (contains_cons f.node (nodes_of (reverse w.stack)) node (on_way node h.1)) [ inl is ↦ absurd (h.0 (sym is)) | inr c ↦ c ]
      ]

      finish_done : (node : ℕ) → slice_get (set w.marks f.node Done) node ≡ Some Done → Contains (w.done ++ f.node ∷ []) node
      finish_done node e = elim (get_set w.marks f.node node Done Done e) [
        | inl h ↦ subst (Contains (w.done ++ f.node ∷ [])) (sym h.0) new_done
        | inr h ↦ kept node (sound.are_done node h.1)
      ]

      all_looked : AllByRecursion (Contains w.done) (successors nodes f.node)
      all_looked = subst (AllByRecursion (Contains w.done)) (ap (λ n. take n (successors nodes f.node)) all ∙ take-length (successors nodes f.node)) way.0

      finish_earlier : (k node : ℕ) → slice_get (w.done ++ f.node ∷ []) k ≡ Some node → AllByRecursion (Contains (take k (w.done ++ f.node ∷ []))) (successors nodes node)
      finish_earlier k node e = elim (slice_get-push_cases w.done f.node k node e) [
        | inl h ↦ subst (λ l. AllByRecursion (Contains l) (successors nodes node)) (sym (take-append-le k w.done (f.node ∷ []) (omega (arith, slice_get_within w.done k node h)))) (sound.earlier k node h)
        | inr h ↦ subst (λ l. AllByRecursion (Contains l) (successors nodes node)) (sym (ap (λ n. take n (w.done ++ f.node ∷ [])) h.0 ∙ take-append_seam w.done (f.node ∷ [])))
            (subst (λ n. AllByRecursion (Contains w.done) (successors nodes n)) h.1 all_looked)
      ]

      finish_met : (node : ℕ) → IsSeen (with_frame w f) node → IsSeen (with_finished w f.node) node
      finish_met node m = by (met_before node m)
        where
          by : Contains (nodes_of (f ∷ reverse w.stack)) node ⊎ Contains w.done node → IsSeen (with_finished w f.node) node
          by (inl c) = elim (contains_cons f.node (nodes_of (reverse w.stack)) node c) [
            | inl is ↦ inr (subst (Contains (w.done ++ f.node ∷ [])) is new_done)
            | inr below ↦ inl below
          ]
          by (inr c) = inr (kept node c)

      pub finish_goes_on : GoesOn nodes (with_frame w f) (with_finished w f.node)
      finish_goes_on = record {
        sound = record {
          marks = length-set w.marks f.node Done ∙ sound.marks;
          way = way_behind w.done (w.done ++ f.node ∷ []) kept f.node new_done (reverse w.stack) way.1;
          on_way = finish_on_way;
          are_done = finish_done;
          inside = inside_rest;
          earlier = finish_earlier;
        };
        met = finish_met;
        less = omega (arith, frame_successors-push w.stack f, all, new_successors-done w.marks nodes f.node);
      }

    -- the next node that the top one leads to
    module _ (child : ℕ) (there : slice_get (successors nodes f.node) f.next ≡ Some child) where
      within : f.next < length (successors nodes f.node)
      within = slice_get_within (successors nodes f.node) f.next child there

      inside_looked : AllByRecursion (λ (g : Frame). (g.node < length nodes) × (g.next ≤ length (successors nodes g.node))) (w.stack ++ looked f ∷ [])
      inside_looked = AllByRecursion-append (λ (g : Frame). (g.node < length nodes) × (g.next ≤ length (successors nodes g.node))) w.stack (looked f ∷ []) inside_rest
          ((inside_top.0, omega (arith, within)), tt)

      reverse_looked : reverse (w.stack ++ looked f ∷ []) ≡ looked f ∷ reverse w.stack
      reverse_looked = reverse_push w.stack (looked f)

      pub look_goes_on : slice_get w.marks child ≡ Some Done → GoesOn nodes (with_frame w f) (with_frame w (looked f))
      look_goes_on e = record {
        sound = record {
          marks = sound.marks;
          way = subst (IsWay nodes w.done) (sym reverse_looked) (
            subst (AllByRecursion (Contains w.done)) (sym (take_next (successors nodes f.node) f.next child there))
                (AllByRecursion-append (Contains w.done) (take f.next (successors nodes f.node)) (child ∷ []) way.0 (sound.are_done child e, tt)),
            way.1,
          );
          on_way = λ node o. subst (λ l. Contains (nodes_of l) node) (sym reverse_looked) (on_way node o);
          are_done = sound.are_done;
          inside = inside_looked;
          earlier = sound.earlier;
        };
        met = met;
        less = omega (arith, frame_successors-push w.stack f, frame_successors-push w.stack (looked f), within);
      }
        where
          met : (node : ℕ) → IsSeen (with_frame w f) node → IsSeen (with_frame w (looked f)) node
          met node m = elim (met_before node m) [
            | inl c ↦ inl (subst (λ l. Contains (nodes_of l) node) (sym reverse_looked) c)
            | inr c ↦ inr c
          ]

      pub circle : slice_get w.marks child ≡ Some Open → (node : ℕ) × LeadsOn nodes node node
      circle e = elim (contains_cons f.node (nodes_of (reverse w.stack)) child (on_way child e)) [
        | inl is ↦ (child, subst (λ a. LeadsOn nodes a child) is (step last))
        | inr below ↦ (child, leads_then (way_leads w.done f.node (reverse w.stack) way.1 child below) child last)
      ]
        where
          last : IsSuccessor nodes f.node child
          last = Contains-slice_get (successors nodes f.node) f.next child there

      pub child_inside : IsGraph nodes → child < length nodes
      child_inside graph = All-contains (λ node. node < length nodes) (successors nodes f.node) child (graph f.node [] inside_top.0) (Contains-slice_get (successors nodes f.node) f.next child there)

      pub open_goes_on : IsGraph nodes → slice_get w.marks child ≡ Some New → GoesOn nodes (with_frame w f) (with_opened (with_frame w (looked f)) child)
      open_goes_on graph e = record {
        sound = record {
          marks = length-set w.marks child Open ∙ sound.marks;
          way = subst (IsWay nodes w.done) (sym (reverse_push (w.stack ++ looked f ∷ []) (record { node = child; next = 0 }) ∙ ap (λ l. record { node = child; next = 0 } ∷ l) reverse_looked))
              (tt, (omega arith, back there, front way.0, way.1));
          on_way = opened_on_way (with_frame w (looked f)) child (λ node o. subst (λ l. Contains (nodes_of l) node) (sym reverse_looked) (on_way node o));
          are_done = opened_done (with_frame w (looked f)) child sound.are_done;
          inside = AllByRecursion-append (λ (g : Frame). (g.node < length nodes) × (g.next ≤ length (successors nodes g.node))) (w.stack ++ looked f ∷ []) (record { node = child; next = 0 } ∷ [])
              inside_looked ((child_inside graph, omega arith), tt);
          earlier = sound.earlier;
        };
        met = λ node m. opened_seen (with_frame w (looked f)) child node (met node m);
        less = omega (
          arith,
          frame_successors-push w.stack f,
          frame_successors-push w.stack (looked f),
          frame_successors-push (w.stack ++ looked f ∷ []) (record { node = child; next = 0 }),
          new_successors-open w.marks nodes child sound.marks e,
          within,
        );
      }
        where
          same : f.next ≡ f.next + 1 - 1
          same = omega arith

          back : slice_get (successors nodes f.node) f.next ≡ Some child → slice_get (successors nodes f.node) (f.next + 1 - 1) ≡ Some child
          back = subst (λ n. slice_get (successors nodes f.node) n ≡ Some child) same

          front : AllByRecursion (Contains w.done) (take f.next (successors nodes f.node)) → AllByRecursion (Contains w.done) (take (f.next + 1 - 1) (successors nodes f.node))
          front = subst (λ n. AllByRecursion (Contains w.done) (take n (successors nodes f.node))) same

          met : (node : ℕ) → IsSeen (with_frame w f) node → IsSeen (with_frame w (looked f)) node
          met node m = elim (met_before node m) [
            | inl c ↦ inl (subst (λ l. Contains (nodes_of l) node) (sym reverse_looked) c)
            | inr c ↦ inr c
          ]

  -- a traversal over all nodes

  met_is_done : (w : TraversalData) (node : ℕ) → w.stack ≡ [] → IsSeen w node → Contains w.done node
  met_is_done w node ended (inl c) = let none : Contains [] node = subst (λ s. Contains (nodes_of (reverse s)) node) ended c in absurd (omega (arith, none.1))
  met_is_done w node ended (inr c) = c

  -- a node that was new
  pub begins_new : (w : TraversalData) (node : ℕ) → node < length nodes → IsSound nodes w → w.stack ≡ [] → IsVisiting nodes node w (with_opened w node)
  begins_new w node l sound ended = record {
    sound = first_opened w node l ended sound;
    here = opened_is_met w node;
    done = λ other c. opened_seen w node other (inr c);
  }

  -- a node that was done
  pub begins_met : (w : TraversalData) (node : ℕ) (m : Mark) → IsSound nodes w → w.stack ≡ [] → slice_get w.marks node ≡ Some m → (m ≡ New → ⊥) → IsVisiting nodes node w w
  begins_met w node m sound ended e other = record { sound = sound; here = by m e other; done = λ other c. inr c }
    where
      by : (m : Mark) → slice_get w.marks node ≡ Some m → (m ≡ New → ⊥) → IsSeen w node
      by New e other = absurd (other refl)
      by Open e other = inl (sound.on_way node e)
      by Done e other = inr (sound.are_done node e)

  pub goes_on_under : (node : ℕ) (before now after : TraversalData) → IsVisiting nodes node before now → GoesOn nodes now after → IsVisiting nodes node before after
  goes_on_under node before now after under go = record { sound = go.sound; here = go.met node under.here; done = λ other c. go.met other (under.done other c) }

  pub went_on : (w after : TraversalData) (b : Bool) → b ≡ false → IsAdvance nodes w after b → GoesOn nodes w after
  went_on w after true e h = absurd cc
  went_on w after false e h = h

  pub under_way_ends : (node : ℕ) (before now : TraversalData) → IsVisiting nodes node before now → now.stack ≡ [] → HasVisited nodes node before now
  under_way_ends node before now under ended = record {
    sound = under.sound;
    ended = ended;
    here = met_is_done now node ended under.here;
    kept = λ other c. met_is_done now other ended (under.done other c);
  }

  all_new : (n k : ℕ) (m : Mark) → slice_get (replicate n New) k ≡ Some m → (New ≡ m → ⊥) → ⊥
  all_new zero k m e other = let z : slice_get {X = Mark} [] k ≡ Some m = e in absurd cc
  all_new (suc n) zero m e other = other cc
  all_new (suc n) (suc k) m e other = all_new n k m e other

  pub fresh_below : (w : TraversalData) → IsFresh (length nodes) w → IsDoneBelow nodes 0 w
  fresh_below w fresh = record {
    sound = record {
      marks = ap length fresh.marks ∙ length-replicate (length nodes) New;
      way = subst (λ s. IsWay nodes w.done (reverse s)) (sym fresh.stack) tt;
      on_way = λ node e. absurd (all_new (length nodes) node Open (ap (λ m. slice_get m node) (sym fresh.marks) ∙ e) (λ i. absurd cc));
      are_done = λ node e. absurd (all_new (length nodes) node Done (ap (λ m. slice_get m node) (sym fresh.marks) ∙ e) (λ i. absurd cc));
      inside = subst (AllByRecursion (λ (g : Frame). (g.node < length nodes) × (g.next ≤ length (successors nodes g.node)))) (sym fresh.stack) tt;
      earlier = λ k node e. let z = ap (λ d. slice_get d k) (sym fresh.done) ∙ e in absurd cc;
    };
    ended = fresh.stack;
    below = λ node l. absurd (omega (arith, l));
  }

  pub visited_below : (n : ℕ) (before after : TraversalData) → IsDoneBelow nodes n before → HasVisited nodes n before after → IsDoneBelow nodes (n + 1) after
  visited_below n before after done visited = record { sound = visited.sound; ended = visited.ended; below = below }
    where
      below : (node : ℕ) → node < n + 1 → Contains after.done node
      below node l = elim (cases_eq node n) [
        | inl is ↦ subst (Contains after.done) (sym is) visited.here
        | inr apart ↦ visited.kept node (done.below node (omega (arith, l, apart)))
      ]

  pub done_in_order : (w : TraversalData) → IsDoneBelow nodes (length nodes) w → IsOrder nodes w.done
  done_in_order w done = record { all = done.below; earlier = done.sound.earlier }
