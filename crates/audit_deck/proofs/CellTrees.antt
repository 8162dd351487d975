-- The tree of a cell is a network of its devices as links between the nets that were met.
use Rattle.std.specs.Prelude.{Contains, Some, slice_get, ◌≢◌}
use Rattle.std.proofs.Common.{List, ap, arith, get_or, inl, inr, length, map, refl, subst, sym, ℕ, ◌+◌, ◌<◌, ◌∙◌, ◌≡◌, ◌≤◌}
use Rattle.std.proofs.lemmas.Option.{get_or_from_slice_get, slice_get-get_or, slice_get_within}
use Rattle.dom_base.specs.declared.kind.Kind.TheVariants.{N as nch}
use Rattle.dom_base.proofs.Decided.{lt_or_ge}
use Rattle.deck.specs.Paths.{Ends}
use Rattle.deck.specs.PortLayout.{source_count}
use Rattle.deck.specs.declared.device.Device.{Device}
use Rattle.deck.specs.declared.role.Roles.{Roles}
use Rattle.sp_network.specs.Tree.{Tree}
use Rattle.sp_reduction.specs.Networks.{Has, Link, whole_height, whole_width}
use Rattle.sp_reduction.specs.Reduction.{IsNetwork}
use Rattle.link_reduce.specs.Parts.{IsOnce, IsSpelled, links_of, part_link}
use Rattle.link_reduce.specs.Reductions.{given_part}
use Rattle.link_reduce.specs.declared.part.Ends.{Ends as EndsData}
use Rattle.link_reduce.proofs.Begun.{given_links, links_have}
use Rattle.stage_law.proofs.Between.{Ends-swap}
use Rattle.port_runs.specs.Periods.{vss_port}
use Rattle.deck_audit.specs.Rules.{HasTree, IsInside}
use Rattle.deck_audit.specs.Words.{IsFree, IsReachedDevice, Reached, here, link_at, step}
use Rattle.audit_deck.specs.CellTrees.{AreLocal, HasBothMet, IsAtSource, IsFootAt, IsTreeAt}
use Rattle.audit_deck.specs.Indexes.{AreThose, HasEnd}
use Rattle.audit_deck.specs.Numberings.{IsMet}
use Rattle.audit_deck.specs.Walks.{IsChannelAmong}
use Rattle.audit_deck.specs.declared.trees.Foot.{Foot}
use Rattle.audit_deck.proofs.Found.{first_end, one_device}
use Rattle.link_reduce.proofs.ShortTrees.{once_short}
use Rattle.audit_deck.proofs.Reaches.{ends_one}
use Rattle.audit_deck.proofs.RenamedTrees.{IsOneToOne, IsRenamed, Renames, between_renamed, has_renamed, rename, renamed_has}
use Rattle.audit_deck.proofs.RenamedTrees.{renamed_height, renamed_numbers, renamed_width}

-- two links with equal parts are one
same_link : (e f : Link) → e.number ≡ f.number → e.from ≡ f.from → e.to ≡ f.to → e.width ≡ f.width → e.height ≡ f.height → e ≡ f
same_link e f a b c d g = λ i. record { number = a i; from = b i; to = c i; width = d i; height = g i }

-- what stands in a list at which place
abbrev pub At : List ℕ → ℕ → ℕ → Type 0
At xs i x = slice_get xs i ≡ Some x

abbrev pub Back : List ℕ → ℕ → ℕ → Type 0
Back xs x i = slice_get xs i ≡ Some x

pub at_once : (xs : List ℕ) → IsOnce xs → IsOneToOne (At xs)
at_once xs once = record {
  to = λ i a b p q. let z : Some a ≡ Some b = sym p ∙ q in cc;
  from = λ i j a p q. once i j a p q;
}

pub back_once : (xs : List ℕ) → IsOnce xs → IsOneToOne (Back xs)
back_once xs once = record {
  to = λ a i j p q. once i j a p q;
  from = λ a b i p q. let z : Some a ≡ Some b = sym p ∙ q in cc;
}

module _ (ds : List Device) (roles : Roles) (x : ℕ) (free : IsFree roles x) where
  -- a device that ends at `vss` ends at a source
  at_source : (p : ℕ) (d : Device) (n : ℕ) → slice_get ds p ≡ Some d → Ends d n vss_port → IsAtSource ds roles p
  at_source p d n at ends = (d, at, vss_port, first_end d vss_port n (Ends-swap d n vss_port ends), (λ f. omega (arith, f)))

  pub reached_free : (n : ℕ) → Reached ds roles x n → IsFree roles n
  reached_free n here = free
  reached_free n (step p d r at k ends f) = f

  module _ (nets places : List ℕ) (reached : AreThose (Reached ds roles x) nets) (channels : AreThose (IsChannelAmong ds nets) places) where
    pub place_reached : (p : ℕ) (d : Device) → slice_get ds p ≡ Some d → IsMet places p → IsReachedDevice ds roles x d
    place_reached p d at met =
        let y = channels.sound met.0 p met.1 in
        let ends = y.2.0 in (
          ap (λ (e : Device). e.kind) (one_device ds p d y.2.1.0 at y.2.1.1) ∙ y.2.1.2,
          y.0,
          reached.sound y.1.0 y.0 y.1.1,
          subst (λ e. HasEnd e y.0) (one_device ds p ends.0 d ends.1 at) ends.2,
        )

    pub reached_place : (p : ℕ) (d : Device) → slice_get ds p ≡ Some d → IsReachedDevice ds roles x d → IsMet places p
    reached_place p d at (k, m, r, ends) = channels.full p (m, reached.full m r, ((d, at, ends), (d, at, k)))

    -- both ends of a device that ends at no source are met
    pub both_met : (p : ℕ) → IsMet places p → (IsAtSource ds roles p → ⊥) → HasBothMet ds nets p
    both_met p met inner = record { device = d; there = at; drain = reached.full d.drain drain; source = reached.full d.source source }
      where
        y : IsChannelAmong ds nets p
        y = channels.sound met.0 p met.1

        d : Device
        d = y.2.0.0

        at : slice_get ds p ≡ Some d
        at = y.2.0.1

        is_free : (n : ℕ) → HasEnd d n → IsFree roles n
        is_free n e = elim (lt_or_ge n (source_count roles)) [
          | inl low ↦ absurd (inner (d, at, n, e, (λ f. omega (arith, low, f))))
          | inr f ↦ f
        ]

        kind : d.kind ≡ nch
        kind = ap (λ (e : Device). e.kind) (one_device ds p d y.2.1.0 at y.2.1.1) ∙ y.2.1.2

        start : Reached ds roles x y.0
        start = reached.sound y.1.0 y.0 y.1.1

        drain : Reached ds roles x d.drain
        drain = elim y.2.0.2 [
          | inl e ↦ subst (Reached ds roles x) (sym e) start
          | inr e ↦ step p d start at kind (inr (e, refl)) (is_free d.drain (inl refl))
        ]

        source : Reached ds roles x d.source
        source = elim y.2.0.2 [
          | inr e ↦ subst (Reached ds roles x) (sym e) start
          | inl e ↦ step p d start at kind (inl (e, refl)) (is_free d.source (inr refl))
        ]

    -- the lower end of the tree is met
    pub bottom_met : (clock : ℕ) (foot : Foot) → IsFootAt ds roles x clock places foot → IsMet nets foot.bottom
    bottom_met clock foot f =
        let y = place_reached foot.place f.device f.there (f.only.place, f.only.at) in
        reached.full foot.bottom (lower y.1 y.2 (f.device_is.2) y.3)
      where
        lower : (m : ℕ) → Reached ds roles x m → Ends f.device foot.bottom vss_port → HasEnd f.device m → Reached ds roles x foot.bottom
        lower m r (inl j) (inl e) = subst (Reached ds roles x) (sym e ∙ j.0) r
        lower m r (inr j) (inr e) = subst (Reached ds roles x) (sym e ∙ j.0) r
        lower m r (inl j) (inr e) = let free = reached_free m r in let z : m ≡ vss_port = sym e ∙ j.1 in absurd (omega (arith, free, z))
        lower m r (inr j) (inl e) = let free = reached_free m r in let z : m ≡ vss_port = sym e ∙ j.1 in absurd (omega (arith, free, z))

    pub places_low : (p : ℕ) → IsMet places p → p < length ds
    places_low p met = let y = channels.sound met.0 p met.1 in slice_get_within ds p y.2.0.0 y.2.0.1

    module _ (clock : ℕ) (foot : Foot) (f : IsFootAt ds roles x clock places foot) (rest : List ℕ)
        (others : AreThose (λ p. IsMet places p × (p ≢ foot.place)) rest) where
      pub rest_met : (i p : ℕ) → slice_get rest i ≡ Some p → HasBothMet ds nets p
      rest_met i p at =
          let y = others.sound i p at in
          both_met p y.0 (λ s. y.1 (f.only.only y.0.0 p y.0.1 s))

      pub rest_short : length rest ≤ length ds
      rest_short = once_short rest (length ds) others.once (λ i p at. places_low p (others.sound i p at).0)

      module _ (links : List EndsData) (local : AreLocal ds nets rest links) (a b : ℕ) (a_is : slice_get nets a ≡ Some x) (b_is : slice_get nets b ≡ Some foot.bottom) where
        abbrev Pairs : Link → Link → Type 0
        Pairs e g = IsRenamed (At nets) (At rest) e g

        -- each link is that of a device, and the other way round
        link_pair : (e : Link) → Contains (links_of links) e
            → (p : ℕ) × (d : Device) × IsMet rest p × (slice_get ds p ≡ Some d) × Pairs e (link_at p d)
        link_pair e c =
            let y = given_links 0 links e c in
            let i = y.0 in
            let low = slice_get_within links i y.1 y.2 in
            let p : ℕ = get_or rest i 0 in
            let at : slice_get rest i ≡ Some p = slice_get-get_or rest i 0 (omega (arith, low, local.count)) in
            let l = local.each i p y.1 at y.2 in
            let z : 0 + i ≡ i = omega arith in (
              p,
              l.device,
              (i, at),
              l.there,
              subst (λ (g : Link). Pairs g (link_at p l.device)) (sym (y.3 ∙ ap (λ n. part_link n (given_part y.1)) z))
                  (record { number = at; from = l.from; to = l.to; width = refl; height = refl }),
            )

        device_pair : (p : ℕ) (d : Device) → IsMet rest p → slice_get ds p ≡ Some d
            → (e : Link) × Contains (links_of links) e × Pairs e (link_at p d)
        device_pair p d met at =
            let i = met.0 in
            let low = slice_get_within rest i p met.1 in
            let no_ends : EndsData = record { from = 0; to = 0 } in
            let e : EndsData = get_or links i no_ends in
            let there : slice_get links i ≡ Some e = slice_get-get_or links i no_ends (omega (arith, low, local.count)) in
            let l = local.each i p e met.1 there in
            let same : l.device ≡ d = one_device ds p l.device d l.there at in
            let z : 0 + i ≡ i = omega arith in (
              part_link (0 + i) (given_part e),
              links_have 0 links i e there,
              subst (λ n. Pairs (part_link n (given_part e)) (link_at p d)) (sym z)
                  (subst (λ d'. Pairs (part_link i (given_part e)) (link_at p d')) same
                  (record { number = met.1; from = l.from; to = l.to; width = refl; height = refl })),
            )

        nets_once : IsOneToOne (At nets)
        nets_once = at_once nets reached.once

        rest_once : IsOneToOne (At rest)
        rest_once = at_once rest others.once

        one_image : (e g h : Link) → Pairs e g → Pairs e h → g ≡ h
        one_image e g h p q =
            same_link g h (rest_once.to e.number g.number h.number p.number q.number) (nets_once.to e.from g.from h.from p.from q.from)
            (nets_once.to e.to g.to h.to p.to q.to) (sym p.width ∙ q.width) (sym p.height ∙ q.height)

        one_origin : (e g h : Link) → Pairs e h → Pairs g h → e ≡ g
        one_origin e g h p q =
            same_link e g (rest_once.from e.number g.number h.number p.number q.number) (nets_once.from e.from g.from h.from p.from q.from)
            (nets_once.from e.to g.to h.to p.to q.to) (p.width ∙ sym q.width) (p.height ∙ sym q.height)

        is_rest : (p : ℕ) (d : Device) → slice_get ds p ≡ Some d → IsReachedDevice ds roles x d → p ≢ foot.place → IsMet rest p
        is_rest p d at r ne = others.full p (reached_place p d at r, ne)

        -- a network of the links is the tree of the cell
        pub tree_found : ((n : ℕ) → IsMet nets n → n ≢ x → IsInside ds roles n) → (w h : ℕ) (order : List ℕ)
            → IsSpelled (links_of links) a b w h order
            → IsTreeAt ds roles x clock (record { foot = foot.place; bottom = foot.bottom; width = w; height = h; order = map (λ n. get_or rest n 0) order })
        tree_found inside w h order n = record {
          tree = u.0;
          has_tree = has_tree;
          foot_is = refl;
          width_is = sym (renamed_width (At nets) (At rest) n.tree u.0 u.1) ∙ n.width_is;
          height_is = sym (renamed_height (At nets) (At rest) n.tree u.0 u.1) ∙ n.height_is;
          order_is = renamed_numbers (At nets) (At rest) (λ i. get_or rest i 0) (λ i p at. sym (get_or_from_slice_get rest i p 0 at)) n.tree u.0 u.1
              ∙ ap (map (λ i. get_or rest i 0)) n.order_is;
        }
          where
            u : (v : Tree Link) × Renames (At nets) (At rest) n.tree v
            u = rename (At nets) (At rest) n.tree (λ e c. let y = link_pair e (n.from e c) in (link_at y.0 y.1, y.4))

            to : (e : Link) → Has u.0 e
                → (p : ℕ) × (d : Device) × (slice_get ds p ≡ Some d) × IsReachedDevice ds roles x d × (p ≢ foot.place) × (e ≡ link_at p d)
            to e c =
                let o = renamed_has (At nets) (At rest) n.tree u.0 u.1 e c in
                let y = link_pair o.0 (n.from o.0 o.1) in
                let r = others.sound y.2.0 y.0 y.2.1 in
                (y.0, y.1, y.3, place_reached y.0 y.1 y.3 r.0, r.1, one_image o.0 e (link_at y.0 y.1) o.2 y.4)

            from : (e : Link)
                → (p : ℕ) × (d : Device) × (slice_get ds p ≡ Some d) × IsReachedDevice ds roles x d × (p ≢ foot.place) × (e ≡ link_at p d) → Has u.0 e
            from e (p, d, at, r, ne, is) =
                let y = device_pair p d (is_rest p d at r ne) at in
                let z = has_renamed (At nets) (At rest) n.tree u.0 u.1 y.0 (n.to y.0 y.1) in
                subst (Has u.0) (one_image y.0 z.0 (link_at p d) z.2 y.2 ∙ sym is) z.1

            has_tree : HasTree ds roles x clock foot.bottom u.0
            has_tree = record {
              foot = foot.place;
              foot_device = f.device;
              foot_there = f.there;
              foot_is = f.device_is;
              bottom_reached = reached.sound b foot.bottom b_is;
              one_foot = λ p d m at r e nf. let y = reached_place p d at r in f.only.only y.0 p y.1 (d, at, m, e, nf);
              apart = f.apart;
              between = between_renamed (At nets) (At rest) nets_once rest_once n.tree u.0 u.1 a b x foot.bottom a_is b_is n.between;
              links_are = λ e. (to e, from e);
              inside = λ m r ne. inside m (reached.full m r) ne;
            }

        -- and the tree of the cell is one
        module _ (bottom : ℕ) (tree : Tree Link) (h : HasTree ds roles x clock bottom tree) where
          foot_reached : IsReachedDevice ds roles x h.foot_device
          foot_reached = (h.foot_is.0, bottom, h.bottom_reached, first_end h.foot_device bottom vss_port h.foot_is.2)

          same_foot : h.foot ≡ foot.place
          same_foot =
              let y = reached_place h.foot h.foot_device h.foot_there foot_reached in
              f.only.only y.0 h.foot y.1 (at_source h.foot h.foot_device bottom h.foot_there h.foot_is.2)

          same_bottom : bottom ≡ foot.bottom
          same_bottom =
              let d : h.foot_device ≡ f.device = one_device ds foot.place h.foot_device f.device (subst (λ p. slice_get ds p ≡ Some h.foot_device) same_foot h.foot_there) f.there in
              ends_one f.device vss_port bottom foot.bottom (Ends-swap f.device bottom vss_port (subst (λ e. Ends e bottom vss_port) d h.foot_is.2)) (Ends-swap f.device foot.bottom vss_port f.device_is.2)

          origin : (e : Link) → Has tree e → (g : Link) × Contains (links_of links) g × Pairs g e
          origin e c =
              let y = (h.links_are e).0 c in
              let z = device_pair y.0 y.1 (is_rest y.0 y.1 y.2 y.3 (λ s. y.4 (s ∙ sym same_foot))) y.2 in
              (z.0, z.1, subst (Pairs z.0) (sym y.5) z.2)

          back : (e g : Link) → Pairs g e → IsRenamed (Back nets) (Back rest) e g
          back e g p = record { number = p.number; from = p.from; to = p.to; width = sym p.width; height = sym p.height }

          forth : (e g : Link) → IsRenamed (Back nets) (Back rest) e g → Pairs g e
          forth e g p = record { number = p.number; from = p.from; to = p.to; width = sym p.width; height = sym p.height }

          u : (v : Tree Link) × Renames (Back nets) (Back rest) tree v
          u = rename (Back nets) (Back rest) tree (λ e c. let y = origin e c in (y.0, back e y.0 y.2))

          to : (g : Link) → Has u.0 g → Contains (links_of links) g
          to g c =
              let o = renamed_has (Back nets) (Back rest) tree u.0 u.1 g c in
              let y = origin o.0 o.1 in
              subst (Contains (links_of links)) (one_origin y.0 g o.0 y.2 (forth o.0 g o.2)) y.1

          from : (g : Link) → Contains (links_of links) g → Has u.0 g
          from g c =
              let y = link_pair g c in
              let i = y.2.0 in
              let r = others.sound i y.0 y.2.1 in
              let e = link_at y.0 y.1 in
              let has : Has tree e = (h.links_are e).1 (y.0, y.1, y.3, place_reached y.0 y.1 y.3 r.0, (λ s. r.1 (s ∙ same_foot)), refl) in
              let z = has_renamed (Back nets) (Back rest) tree u.0 u.1 e has in
              subst (Has u.0) (one_origin z.0 g e (forth e z.0 z.2) y.4) z.1

          pub tree_network : (w : ℕ) × (k : ℕ) × IsNetwork (links_of links) a b w k
          tree_network = (
            whole_width u.0,
            whole_height u.0,
            record {
              tree = u.0;
              between = between_renamed (Back nets) (Back rest) (back_once nets reached.once) (back_once rest others.once) tree u.0 u.1 x bottom a b a_is
                  (subst (λ m. slice_get nets b ≡ Some m) (sym same_bottom) b_is) h.between;
              links_are = λ g. (to g, from g);
              width_is = refl;
              height_is = refl;
            },
          )

    -- the foot of a cell that has a tree
    pub foot_there : (clock bottom : ℕ) (tree : Tree Link) → HasTree ds roles x clock bottom tree
        → (g : Foot) × IsFootAt ds roles x clock places g
    foot_there clock bottom tree h =
        let y = reached_place h.foot h.foot_device h.foot_there (h.foot_is.0, bottom, h.bottom_reached, first_end h.foot_device bottom vss_port h.foot_is.2) in (
          record { place = h.foot; bottom = bottom },
          record {
            only = record {
              place = y.0;
              at = y.1;
              has = at_source h.foot h.foot_device bottom h.foot_there h.foot_is.2;
              only = λ j p at s. h.one_foot p s.0 s.2 s.1 (place_reached p s.0 s.1 (j, at)) s.3 s.4;
            };
            device = h.foot_device;
            there = h.foot_there;
            device_is = h.foot_is;
            apart = h.apart;
          },
        )
