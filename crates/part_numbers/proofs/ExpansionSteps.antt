-- What the scopes and parts of a walk over all paths by numbers stand for, and that each step keeps it.
use Rattle.std.proofs.Common.{inl, inr, ◌≡◌, ℕ, zero, suc, ◌<◌, ◌≤◌, ◌+◌, ◌-◌, List, [], ◌∷◌, ◌++◌, map, reverse, length, drop, Option, Some, None, refl, ap, sym, ◌∙◌, subst, arith, append_assoc, append-nil}
use Rattle.std.specs.Prelude.{slice_get}
use Rattle.std.specs.List.{AllByRecursion}
use Rattle.std.specs.Option.{option_map}
use Rattle.std.proofs.Math.ListN.{get_or-append}
use Rattle.std.proofs.Math.Seq.{get_or-append_seam}
use Rattle.std.proofs.lemmas.List.{length-append, map-append}
use Rattle.std.proofs.lemmas.Option.{get_or_from_slice_get, slice_get_within}
use Rattle.dom_base.proofs.Lists.{AllByRecursion-append, AllByRecursion-left, AllByRecursion-reverse, AllByRecursion-right, AllByRecursion-weaker, slice_get-append, slice_get-behind, slice_get-push_cases}
use Rattle.blif_ast.specs.BlifFileData.{BlifFileData}
use Rattle.blif_ast.specs.BlifModelData.{BlifModelData}
use Rattle.blif_ast.specs.declared.latch.Latch.{Latch}
use Rattle.blif_ast.specs.InstanceData.{InstanceData}
use Rattle.blif_ast.specs.TableData.{TableData}
use Rattle.model_calls.specs.Expanded.{BodyCard, InstanceCard, LatchCard, LatchPart, PlacedPart, TableCard, TablePart, ordered_cards, expanded_from}
use Rattle.model_calls.specs.Occurrences.{first_model, main_model, models_called}
use Rattle.part_numbers.specs.Walks.{Frame as Way, rest}
use Rattle.part_numbers.proofs.LineOccurrences.{begins_left, entered_left, occurrences_push}
use Rattle.part_numbers.proofs.Walks.{begins, enters}
use Rattle.part_numbers.specs.NumberedFiles.{model_at}
use Rattle.part_numbers.specs.declared.numbered.PartCard.TheVariants.{Table as TableIndex, Latch as LatchIndex}
use Rattle.model_calls.specs.declared.plan.CardAt.{CardAt}
use Rattle.model_calls.specs.declared.plan.CardAt.TheVariants.{Table, Latch as LatchAt, Instance}
use Rattle.part_numbers.specs.declared.walk.Frame.{Frame}
use Rattle.part_numbers.specs.declared.walk.ScopedPart.{ScopedPart}
use Rattle.part_numbers.specs.declared.walk.Scope.{Scope}
use Rattle.model_calls.specs.Plans.{AreCards, IsCardAt, IsPlanned, HasMainPlan, plan_at}
use Rattle.part_numbers.specs.LineOccurrences.{line_occurrences_from, occurrences_left}
use Rattle.part_numbers.specs.Expansions.{AreScopes, ExpansionData, IsInFile, IsPartInside, scope_occurrences, HasModel, IsScopeBelow, IsExpansion, IsScope, AreFramesRanked, MakesExpansion, after_card, entered, further, part_at, part_with, path_at, stepped, way_of, pushed_frame}
use Rattle.part_numbers.proofs.ExpansionWork.{are_at, are_past, deep, reverse_push}

-- what the scopes mean, when more come

path_kept : (paths : List (List InstanceData)) (p : List InstanceData) (k : ℕ) → k < length paths → path_at (paths ++ p ∷ []) k ≡ path_at paths k
path_kept paths p k l = get_or-append paths (p ∷ []) [] k l

part_kept : (f : BlifFileData) (paths : List (List InstanceData)) (p : List InstanceData) (x : ScopedPart) → x.scope < length paths → part_at f (paths ++ p ∷ []) x ≡ part_at f paths x
part_kept f paths p x l = ap (λ q. part_with q (model_at f x.model) x.card) (path_kept paths p x.scope l)

parts_kept : (f : BlifFileData) (paths : List (List InstanceData)) (p : List InstanceData) (xs : List ScopedPart) → AllByRecursion (λ (x : ScopedPart). x.scope < length paths) xs → map (part_at f (paths ++ p ∷ [])) xs ≡ map (part_at f paths) xs
parts_kept f paths p [] h = refl
parts_kept f paths p (x ∷ xs) h = ap (λ y. y ∷ map (part_at f (paths ++ p ∷ [])) xs) (part_kept f paths p x h.0) ∙ ap (λ l. part_at f paths x ∷ l) (parts_kept f paths p xs h.1)

way_kept : (f : BlifFileData) (paths : List (List InstanceData)) (p : List InstanceData) (g : Frame) → g.scope < length paths → way_of f (paths ++ p ∷ []) g ≡ way_of f paths g
way_kept f paths p g l = ap (λ q. record { depth = g.depth; path = q; left = drop g.next (ordered_cards (model_at f g.model)) }) (path_kept paths p g.scope l)

ways_kept : (f : BlifFileData) (paths : List (List InstanceData)) (p : List InstanceData) (gs : List Frame) → AllByRecursion (λ (g : Frame). g.scope < length paths) gs → map (way_of f (paths ++ p ∷ [])) gs ≡ map (way_of f paths) gs
ways_kept f paths p [] h = refl
ways_kept f paths p (g ∷ gs) h = ap (λ y. y ∷ map (way_of f (paths ++ p ∷ [])) gs) (way_kept f paths p g h.0) ∙ ap (λ l. way_of f paths g ∷ l) (ways_kept f paths p gs h.1)

module _ (plans : List (List CardAt)) (f : BlifFileData) (depth : ℕ) (planned : IsPlanned f plans) where
  abbrev InFile : Frame → Type 0
  InFile g = (m : BlifModelData) × (slice_get f.models g.model ≡ Some m)

  module _ (e : ExpansionData) (g : Frame) (under : AreFramesRanked plans (pushed_frame e g)) (made : MakesExpansion f depth (pushed_frame e g)) where
    abbrev paths : List (List InstanceData)
    paths = made.paths

    abbrev IsInside : Frame → Type 0
    IsInside h = (h.scope < length paths) × InFile h × HasModel e.scopes h.scope h.model

    others_inside : AllByRecursion IsInside e.frames
    others_inside = AllByRecursion-left IsInside e.frames (g ∷ []) made.frames_inside

    top_inside : IsInside g
    top_inside = (AllByRecursion-right IsInside e.frames (g ∷ []) made.frames_inside).0

    scopes_inside : AllByRecursion (λ (h : Frame). h.scope < length paths) (reverse e.frames)
    scopes_inside = AllByRecursion-reverse (λ (h : Frame). h.scope < length paths) e.frames (AllByRecursion-weaker IsInside (λ (h : Frame). h.scope < length paths) (λ h k. k.0) e.frames others_inside)

    model_is : model_at f g.model ≡ top_inside.1.0
    model_is = get_or_from_slice_get f.models g.model top_inside.1.0 (first_model []) top_inside.1.1

    cards : AreCards f (model_at f g.model) (plan_at plans g.model) (ordered_cards (model_at f g.model))
    cards = subst (λ m. AreCards f m (plan_at plans g.model) (ordered_cards m)) (sym model_is) (planned.cards g.model top_inside.1.0 top_inside.1.1)

    abbrev other_ways : List Way
    other_ways = map (way_of f paths) (reverse e.frames)

    -- what is to come, with the top frame in front
    whole_top : map (part_at f paths) e.parts ++ map Some (rest f.models (way_of f paths g ∷ other_ways)) ≡ map Some (expanded_from f.models (suc depth) [] (main_model f))
    whole_top = ap (λ l. map (part_at f paths) e.parts ++ map Some (rest f.models (map (way_of f paths) l))) (sym (reverse_push e.frames g)) ∙ made.whole

    all_top : scope_occurrences f paths e.scopes ++ occurrences_left f.models (way_of f paths g ∷ other_ways) ≡ line_occurrences_from f.models (suc depth) [] (main_model f)
    all_top = ap (λ l. scope_occurrences f paths e.scopes ++ occurrences_left f.models (map (way_of f paths) l)) (sym (reverse_push e.frames g)) ∙ made.all_scopes

    abbrev Next : BodyCard → List BodyCard → Type 0
    Next c more = drop g.next (ordered_cards (model_at f g.model)) ≡ c ∷ more

    way_with : (left : List BodyCard) → drop g.next (ordered_cards (model_at f g.model)) ≡ left → way_of f paths g ≡ record { depth = g.depth; path = path_at paths g.scope; left = left }
    way_with left is = ap (λ l. record { depth = g.depth; path = path_at paths g.scope; left = l }) is

    further_inside : AllByRecursion IsInside (e.frames ++ further g ∷ [])
    further_inside = AllByRecursion-append IsInside e.frames (further g ∷ []) others_inside (top_inside, tt)

    -- a part is met
    meets : (x : ScopedPart) (part : PlacedPart) → (x.scope ≡ g.scope) × (x.model ≡ g.model) → part_at f paths x ≡ Some part
        → rest f.models (way_of f paths g ∷ other_ways) ≡ part ∷ rest f.models (way_of f paths (further g) ∷ other_ways)
        → occurrences_left f.models (way_of f paths g ∷ other_ways) ≡ occurrences_left f.models (way_of f paths (further g) ∷ other_ways)
        → MakesExpansion f depth (record { scopes = e.scopes; parts = e.parts ++ x ∷ []; frames = e.frames ++ further g ∷ [] })
    meets x part at is comes stays = record {
      paths = paths;
      are_paths = made.are_paths;
      parts_inside = AllByRecursion-append (IsPartInside e.scopes) e.parts (x ∷ []) made.parts_inside ((omega (arith, at.0, top_inside.0, made.are_paths.count), (top_inside.2.0, ap (slice_get e.scopes) at.0 ∙ top_inside.2.1, top_inside.2.2 ∙ sym at.1)), tt);
      frames_inside = further_inside;
      whole =
          ap (λ l. l ++ map Some (rest f.models (map (way_of f paths) (reverse (e.frames ++ further g ∷ []))))) (map-append (part_at f paths) e.parts (x ∷ []))
          ∙ ap (λ l. map (part_at f paths) e.parts ++ part_at f paths x ∷ [] ++ map Some (rest f.models (map (way_of f paths) l))) (reverse_push e.frames (further g))
          ∙ append_assoc (map (part_at f paths) e.parts) (part_at f paths x ∷ []) (map Some (rest f.models (way_of f paths (further g) ∷ other_ways)))
          ∙ ap (λ y. map (part_at f paths) e.parts ++ (y ∷ map Some (rest f.models (way_of f paths (further g) ∷ other_ways)))) is
          ∙ ap (λ l. map (part_at f paths) e.parts ++ map Some l) (sym comes)
          ∙ whole_top;
      all_scopes =
          ap (λ l. scope_occurrences f paths e.scopes ++ occurrences_left f.models (map (way_of f paths) l)) (reverse_push e.frames (further g))
          ∙ ap (λ l. scope_occurrences f paths e.scopes ++ l) (sym stays)
          ∙ all_top;
    }

    leaves : slice_get (plan_at plans g.model) g.next ≡ None → MakesExpansion f depth e
    leaves none = record {
      paths = paths;
      are_paths = made.are_paths;
      parts_inside = made.parts_inside;
      frames_inside = others_inside;
      whole = ap (λ w. map (part_at f paths) e.parts ++ map Some (rest f.models (w ∷ other_ways))) (sym (way_with [] (are_past f (model_at f g.model) (plan_at plans g.model) (ordered_cards (model_at f g.model)) g.next cards none))) ∙ whole_top;
      all_scopes = ap (λ w. scope_occurrences f paths e.scopes ++ occurrences_left f.models (w ∷ other_ways)) (sym (way_with [] (are_past f (model_at f g.model) (plan_at plans g.model) (ordered_cards (model_at f g.model)) g.next cards none))) ∙ all_top;
    }

    module _ (at unit : ℕ) (i : InstanceData) (left : List BodyCard) (deeper : 1 ≤ g.depth) (n : BlifModelData) (unit_is : slice_get f.models unit ≡ Some n)
        (called : models_called f.models i.unit ≡ n ∷ []) (instance_is : slice_get (model_at f g.model).instances at ≡ Some i) (next : drop g.next (ordered_cards (model_at f g.model)) ≡ InstanceCard i ∷ left) (rest_is : drop (g.next + 1) (ordered_cards (model_at f g.model)) ≡ left) where
      abbrev below : List InstanceData
      below = i ∷ path_at paths g.scope

      abbrev new : Frame
      new = record { scope = length e.scopes; model = unit; next = 0; depth = g.depth - 1 }

      abbrev new_scope : Scope
      new_scope = record { model = unit; above = g.scope; instance = at }

      abbrev scopes_now : List Scope
      scopes_now = e.scopes ++ new_scope ∷ []

      model_kept : (k model : ℕ) → HasModel e.scopes k model → HasModel scopes_now k model
      model_kept k model h = (h.0, slice_get-append e.scopes (new_scope ∷ []) k h.0 h.1, h.2)

      scopes_hold : AreScopes f (paths ++ below ∷ []) scopes_now
      scopes_hold k s there = elim (slice_get-push_cases e.scopes new_scope k s there) [
        | inl old ↦ old_scope (made.are_paths.scopes_are k s old) (slice_get_within e.scopes k s old)
        | inr now ↦ subst (λ t. IsScope f (paths ++ below ∷ []) scopes_now k t) now.1 (subst (λ j. IsScope f (paths ++ below ∷ []) scopes_now j new_scope) (sym now.0) (inr fresh_scope))
      ]
        where
          old_below : IsScopeBelow f paths e.scopes k s → k < length e.scopes → IsScopeBelow f (paths ++ below ∷ []) scopes_now k s
          old_below b l = record {
            above = b.above;
            model = b.model;
            has_model = model_kept s.above b.model b.has_model;
            instance = b.instance;
            instance_is = b.instance_is;
            called = b.called;
            path_is = path_kept paths below k (omega (arith, l, made.are_paths.count)) ∙ b.path_is ∙ ap (λ p. b.instance ∷ p) (sym (path_kept paths below s.above (omega (arith, l, made.are_paths.count, b.above))));
          }

          old_scope : IsScope f paths e.scopes k s → k < length e.scopes → IsScope f (paths ++ below ∷ []) scopes_now k s
          old_scope (inl main) l = inl (main.0, path_kept paths below k (omega (arith, l, made.are_paths.count)) ∙ main.1, main.2)
          old_scope (inr b) l = inr (old_below b l)

          fresh_scope : IsScopeBelow f (paths ++ below ∷ []) scopes_now (length e.scopes) new_scope
          fresh_scope = record {
            above = omega (arith, top_inside.0, made.are_paths.count);
            model = g.model;
            has_model = model_kept g.scope g.model top_inside.2;
            instance = i;
            instance_is = instance_is;
            called = called ∙ ap (λ k. k ∷ []) (sym (get_or_from_slice_get f.models unit n (first_model []) unit_is));
            path_is = ap (path_at (paths ++ below ∷ [])) (sym made.are_paths.count) ∙ get_or-append_seam paths below [] [] ∙ ap (λ p. i ∷ p) (sym (path_kept paths below g.scope top_inside.0));
          }

      abbrev IsInsideNow : Frame → Type 0
      IsInsideNow h = (h.scope < length (paths ++ below ∷ [])) × InFile h × HasModel scopes_now h.scope h.model

      abbrev new_way : Way
      new_way = record { depth = g.depth - 1; path = below; left = ordered_cards n }

      new_way_is : way_of f (paths ++ below ∷ []) new ≡ new_way
      new_way_is = ap (λ p. record { depth = g.depth - 1; path = p; left = ordered_cards (model_at f unit) })
          (ap (path_at (paths ++ below ∷ [])) (sym made.are_paths.count) ∙ get_or-append_seam paths below [] [])
          ∙ ap (λ m. record { depth = g.depth - 1; path = below; left = ordered_cards m }) (get_or_from_slice_get f.models unit n (first_model []) unit_is)

      further_way : way_of f (paths ++ below ∷ []) (further g) ≡ record { depth = suc (g.depth - 1); path = path_at paths g.scope; left = left }
      further_way = way_kept f paths below (further g) top_inside.0 ∙ ap (λ l. record { depth = g.depth; path = path_at paths g.scope; left = l }) rest_is
          ∙ ap (λ d. record { depth = d; path = path_at paths g.scope; left = left }) (let z : g.depth ≡ suc (g.depth - 1) = omega (arith, deeper) in z)

      all_ways : map (way_of f (paths ++ below ∷ [])) (reverse ((e.frames ++ further g ∷ []) ++ new ∷ []))
          ≡ new_way ∷ record { depth = suc (g.depth - 1); path = path_at paths g.scope; left = left } ∷ other_ways
      all_ways = ap (map (way_of f (paths ++ below ∷ []))) (reverse_push (e.frames ++ further g ∷ []) new ∙ ap (λ l. new ∷ l) (reverse_push e.frames (further g)))
          ∙ ap (λ w. w ∷ way_of f (paths ++ below ∷ []) (further g) ∷ map (way_of f (paths ++ below ∷ [])) (reverse e.frames)) new_way_is
          ∙ ap (λ w. new_way ∷ w ∷ map (way_of f (paths ++ below ∷ [])) (reverse e.frames)) further_way
          ∙ ap (λ l. new_way ∷ record { depth = suc (g.depth - 1); path = path_at paths g.scope; left = left } ∷ l) (ways_kept f paths below (reverse e.frames) scopes_inside)

      way_deep : way_of f paths g ≡ record { depth = suc (g.depth - 1); path = path_at paths g.scope; left = InstanceCard i ∷ left }
      way_deep = way_with (InstanceCard i ∷ left) next
          ∙ ap (λ d. record { depth = d; path = path_at paths g.scope; left = InstanceCard i ∷ left }) (let z : g.depth ≡ suc (g.depth - 1) = omega (arith, deeper) in z)

      parts_before : AllByRecursion (λ (p : ScopedPart). p.scope < length paths) e.parts
      parts_before = AllByRecursion-weaker (IsPartInside e.scopes) (λ (p : ScopedPart). p.scope < length paths) (λ p h. omega (arith, h.0, made.are_paths.count)) e.parts made.parts_inside

      entering : rest f.models (way_of f paths g ∷ other_ways) ≡ rest f.models (new_way ∷ record { depth = suc (g.depth - 1); path = path_at paths g.scope; left = left } ∷ other_ways)
      entering = ap (λ w. rest f.models (w ∷ other_ways)) way_deep ∙ enters f.models (g.depth - 1) (path_at paths g.scope) i n left other_ways called

      made_below : MakesExpansion f depth (entered (pushed_frame e (further g)) unit g.scope at (g.depth - 1))
      made_below = record {
        paths = paths ++ below ∷ [];
        are_paths = record {
          count = omega (arith, length-append paths (below ∷ []), length-append e.scopes (record { model = unit; above = g.scope; instance = at } ∷ []), made.are_paths.count);
          scopes_are = scopes_hold;
          in_file = AllByRecursion-append (IsInFile f) e.scopes (new_scope ∷ []) made.are_paths.in_file (slice_get_within f.models unit n unit_is, tt);
        };
        parts_inside = AllByRecursion-weaker (IsPartInside e.scopes) (IsPartInside scopes_now)
            (λ p h. (omega (arith, h.0, length-append e.scopes (new_scope ∷ [])), model_kept p.scope p.model h.1)) e.parts made.parts_inside;
        frames_inside = AllByRecursion-append IsInsideNow (e.frames ++ further g ∷ []) (new ∷ [])
            (AllByRecursion-weaker IsInside IsInsideNow (λ h k. (omega (arith, k.0, length-append paths (below ∷ [])), k.1, model_kept h.scope h.model k.2)) (e.frames ++ further g ∷ []) further_inside)
            ((omega (arith, made.are_paths.count, length-append paths (below ∷ [])), (n, unit_is), (new_scope, ap (slice_get scopes_now) (let z : length e.scopes ≡ length e.scopes + 0 = omega arith in z) ∙ slice_get-behind e.scopes (new_scope ∷ []) 0, refl)), tt);
        whole = ap (λ l. l ++ map Some (rest f.models (map (way_of f (paths ++ below ∷ [])) (reverse ((e.frames ++ further g ∷ []) ++ new ∷ []))))) (parts_kept f paths below e.parts parts_before)
            ∙ ap (λ l. map (part_at f paths) e.parts ++ map Some (rest f.models l)) all_ways
            ∙ ap (λ l. map (part_at f paths) e.parts ++ map Some l) (sym entering)
            ∙ whole_top;
        all_scopes = ap (λ l. scope_occurrences f (paths ++ below ∷ []) scopes_now ++ occurrences_left f.models l) all_ways
            ∙ ap (λ l. l ++ occurrences_left f.models (new_way ∷ record { depth = suc (g.depth - 1); path = path_at paths g.scope; left = left } ∷ other_ways))
            (occurrences_push f paths e.scopes below new_scope made.are_paths.count ∙ ap (λ m. scope_occurrences f paths e.scopes ++ record { path = below; model = m } ∷ []) (get_or_from_slice_get f.models unit n (first_model []) unit_is))
            ∙ append_assoc (scope_occurrences f paths e.scopes) (record { path = below; model = n } ∷ []) (occurrences_left f.models (new_way ∷ record { depth = suc (g.depth - 1); path = path_at paths g.scope; left = left } ∷ other_ways))
            ∙ ap (λ l. scope_occurrences f paths e.scopes ++ l) (sym (entered_left f.models (g.depth - 1) (path_at paths g.scope) i n left other_ways called))
            ∙ ap (λ w. scope_occurrences f paths e.scopes ++ occurrences_left f.models (w ∷ other_ways)) (sym way_deep)
            ∙ all_top;
      }

    table_met : (at : ℕ) → slice_get (plan_at plans g.model) g.next ≡ Some (Table at) → MakesExpansion f depth (after_card e g (Some (Table at)))
    table_met at there = by (are_at f (model_at f g.model) (plan_at plans g.model) (ordered_cards (model_at f g.model)) g.next (Table at) cards there)
      where
        by : (c : BodyCard) × IsCardAt f (model_at f g.model) (Table at) c × (drop g.next (ordered_cards (model_at f g.model)) ≡ c ∷ drop (g.next + 1) (ordered_cards (model_at f g.model))) → MakesExpansion f depth (after_card e g (Some (Table at)))
        by (TableCard t, is, next) = meets (record { scope = g.scope; model = g.model; card = TableIndex at }) (TablePart (record { path = path_at paths g.scope; table = t })) (refl, refl)
            (ap (option_map (λ (u : TableData). TablePart (record { path = path_at paths g.scope; table = u }))) is)
            (ap (λ w. rest f.models (w ∷ other_ways)) (way_with (TableCard t ∷ drop (g.next + 1) (ordered_cards (model_at f g.model))) next))
            (ap (λ w. occurrences_left f.models (w ∷ other_ways)) (way_with (TableCard t ∷ drop (g.next + 1) (ordered_cards (model_at f g.model))) next))
        by (LatchCard l, is, next) = absurd is
        by (InstanceCard i, is, next) = absurd is

    latch_met : (at : ℕ) → slice_get (plan_at plans g.model) g.next ≡ Some (LatchAt at) → MakesExpansion f depth (after_card e g (Some (LatchAt at)))
    latch_met at there = by (are_at f (model_at f g.model) (plan_at plans g.model) (ordered_cards (model_at f g.model)) g.next (LatchAt at) cards there)
      where
        by : (c : BodyCard) × IsCardAt f (model_at f g.model) (LatchAt at) c × (drop g.next (ordered_cards (model_at f g.model)) ≡ c ∷ drop (g.next + 1) (ordered_cards (model_at f g.model))) → MakesExpansion f depth (after_card e g (Some (LatchAt at)))
        by (TableCard t, is, next) = absurd is
        by (LatchCard l, is, next) = meets (record { scope = g.scope; model = g.model; card = LatchIndex at }) (LatchPart (record { path = path_at paths g.scope; latch = l })) (refl, refl)
            (ap (option_map (λ (u : Latch). LatchPart (record { path = path_at paths g.scope; latch = u }))) is)
            (ap (λ w. rest f.models (w ∷ other_ways)) (way_with (LatchCard l ∷ drop (g.next + 1) (ordered_cards (model_at f g.model))) next))
            (ap (λ w. occurrences_left f.models (w ∷ other_ways)) (way_with (LatchCard l ∷ drop (g.next + 1) (ordered_cards (model_at f g.model))) next))
        by (InstanceCard i, is, next) = absurd is

    instance_entered : (at unit : ℕ) → slice_get (plan_at plans g.model) g.next ≡ Some (Instance at unit) → MakesExpansion f depth (after_card e g (Some (Instance at unit)))
    instance_entered at unit there = by (are_at f (model_at f g.model) (plan_at plans g.model) (ordered_cards (model_at f g.model)) g.next (Instance at unit) cards there)
      where
        deeper : 1 ≤ g.depth
        deeper = deep plans e g at unit under there

        by : (c : BodyCard) × IsCardAt f (model_at f g.model) (Instance at unit) c × (drop g.next (ordered_cards (model_at f g.model)) ≡ c ∷ drop (g.next + 1) (ordered_cards (model_at f g.model))) → MakesExpansion f depth (after_card e g (Some (Instance at unit)))
        by (TableCard t, is, next) = absurd is
        by (LatchCard l, is, next) = absurd is
        by (InstanceCard i, is, next) = made_below at unit i (drop (g.next + 1) (ordered_cards (model_at f g.model))) deeper is.1.0 is.1.1 is.1.2 is.0 next refl

    made_by : (card : Option CardAt) → slice_get (plan_at plans g.model) g.next ≡ card → MakesExpansion f depth (after_card e g card)
    made_by None there = leaves there
    made_by (Some (Table at)) there = table_met at there
    made_by (Some (LatchAt at)) there = latch_met at there
    made_by (Some (Instance at unit)) there = instance_entered at unit there

    pub still_makes : MakesExpansion f depth (stepped plans e g)
    still_makes = made_by (slice_get (plan_at plans g.model) g.next) refl

  -- the walk begins
  abbrev fresh : ExpansionData
  fresh = record { scopes = []; parts = []; frames = [] }

  pub makes_first : MakesExpansion f depth (entered fresh 0 0 0 depth)
  makes_first = record {
    paths = [] ∷ [];
    are_paths = record { count = refl; scopes_are = first_scope; in_file = (slice_get_within f.models 0 (main_model f) planned.main, tt) };
    parts_inside = tt;
    frames_inside = ((omega arith, (main_model f, planned.main), (record { model = 0; above = 0; instance = 0 }, refl, refl)), tt);
    whole = ap (map Some)
        (ap (λ m. rest f.models (record { depth = depth; path = []; left = ordered_cards m } ∷ [])) (get_or_from_slice_get f.models 0 (main_model f) (first_model []) planned.main) ∙ begins f.models depth (main_model f));
    all_scopes = ap (λ m. record { path = []; model = m } ∷ occurrences_left f.models (record { depth = depth; path = []; left = ordered_cards m } ∷ []))
        (get_or_from_slice_get f.models 0 (main_model f) (first_model []) planned.main) ∙ begins_left f.models depth (main_model f);
  }
    where
      first_scope : AreScopes f ([] ∷ []) (record { model = 0; above = 0; instance = 0 } ∷ [])
      first_scope zero s e = let is : record { model = 0; above = 0; instance = 0 } ≡ s = cc in inl (refl, refl, ap (λ (t : Scope). t.model) (sym is))
      first_scope (suc k) s e = absurd cc

  -- and ends without frames
  pub has_all : (e : ExpansionData) → MakesExpansion f depth e → e.frames ≡ [] → IsExpansion f depth e
  has_all e made none = record {
    paths = made.paths;
    are_paths = made.are_paths;
    parts_inside = made.parts_inside;
    parts_are = sym (append-nil (map (part_at f made.paths) e.parts))
        ∙ ap (λ fs. map (part_at f made.paths) e.parts ++ map Some (rest f.models (map (way_of f made.paths) (reverse fs)))) (sym none) ∙ made.whole;
    scopes_are = sym (append-nil (scope_occurrences f made.paths e.scopes))
        ∙ ap (λ fs. scope_occurrences f made.paths e.scopes ++ occurrences_left f.models (map (way_of f made.paths) (reverse fs))) (sym none) ∙ made.all_scopes;
  }

pub first_under_way : (plans : List (List CardAt)) (depth : ℕ) → HasMainPlan plans depth → AreFramesRanked plans (entered (record { scopes = []; parts = []; frames = [] }) 0 0 0 depth)
first_under_way plans depth ready = record { rank = ready.rank; ranked = ready.ranked; low = ((ready.some, ready.low), tt) }
