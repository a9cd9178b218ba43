-- Who is on the air, held to InWords.
use Rattle.std.proofs.lemmas.Bool.Decides.{nat_tests}
use Prim.Native.Nat.{ℕ, ◌≤◌}
use mathlib.Core.Path.{◌≡◌, refl, sym, ap, subst, ◌∙◌}
use mathlib.Core.Bool.{Bool, true, false, cond, ◌&&◌, ◌||◌, false≢true}
use mathlib.Core.List.{List, [], ◌∷◌, map}
use mathlib.Core.Logic.{◌↔◌, ◌⊎◌, inl, inr}
use native.Mathlib.Omega.{arith}
use lib.Dec.{ltb, leb, eqb}
use borrow.Author.Tests.{ltb-true, ltb-false, leb-true, le-leb, eqb-true, eq-eqb}
use Rattle.base.specs.Lists.{how_many}
use Rattle.base.proofs.Truths.{and_left, and_right, or_true}
use Rattle.record.specs.Record.{seat_numbers, no_such_seat, entry_of, seat_of}
use Rattle.record.proofs.Seats.{seat_in_range, each_seat, at_seat, flag_is_seat, open_is_seat}
use Rattle.air.specs.Air.{rank, type_of, the_first, takes_part, keyings, top_rank, at_rank, leaders, added, on_air, among, smallest, any_sends, air_of, bench_air}
use Rattle.air.specs.InWords.{last_field, TakesPart, AtTop, place_of, Leads, all_of_them, the_first_one, IsAdded, OnAir, TellsPtts, several, sent, Shows, EachPlaced}
use Rattle.record.specs.declared.whole.Bench.{Bench}
use Rattle.air.proofs.Marking.{among_both}
use Rattle.air.proofs.Members.{first_place, least_first, among_chosen, first_among, placed_among, seats_rise, smallest_among, smallest_least, counts_two, found_two, sends_found, sends_one}
use Rattle.air.proofs.RanksInWords.{above_higher, higher_above, type_of_rank, ranked, at_chosen, top_most, Met, top_met, none_keyed}

-- ---- the bench

module _ (b : Bench) where
  abbrev top : ℕ
  top = top_rank (keyings b)

  abbrev rank_of : ℕ → ℕ
  rank_of n = rank (last_field b n).ptt

  pub part_is : (n : ℕ) → takes_part b.healthy (seat_of b.seats n) ≡ true → TakesPart b n
  unfolding takes_part
  part_is n h = record { healthy = grind (arith, nat_tests); is_open = grind (arith, nat_tests); not_off = grind (arith, nat_tests); known = grind (arith, nat_tests); unmuted = grind (arith, nat_tests) }

  pub is_part : (n : ℕ) → TakesPart b n → takes_part b.healthy (seat_of b.seats n) ≡ true
  unfolding takes_part
  is_part n p = grind (arith, nat_tests, p.healthy, p.is_open, p.unmuted, p.not_off, p.known)

  is_seat : (n : ℕ) → TakesPart b n → no_such_seat n ≡ false
  is_seat n p = open_is_seat b.seats n p.is_open

  same_type : (m n : ℕ) → TakesPart b m → TakesPart b n → rank_of m ≡ rank_of n → (last_field b m).ptt ≡ (last_field b n).ptt
  same_type m n p q e = grind (arith, type_of_rank (last_field b m).ptt p.not_off p.known, type_of_rank (last_field b n).ptt q.not_off q.known)

  leads_part : (n : ℕ) → Leads b n → TakesPart b n
  leads_part n (all_of_them t mode) = t.part
  leads_part n (the_first_one t mode first) = t.part

  on_air_part : (n : ℕ) → OnAir b n → TakesPart b n
  on_air_part n (inl l) = leads_part n l
  on_air_part n (inr a) = a.part

  module _ (stand : EachPlaced b) where
    in_order : (n : ℕ) → TakesPart b n → among b.order n ≡ true
    in_order n p = let r = seat_in_range n (is_seat n p) in placed_among b.order n (stand n r.0 r.1)

    below_top : (n : ℕ) → TakesPart b n → rank_of n ≤ top
    unfolding keyings
    below_top n p = top_most b.healthy b.seats b.order n (in_order n p) (is_part n p)

    met : (n : ℕ) → TakesPart b n → (m : ℕ) × TakesPart b m × (rank_of m ≡ top)
    unfolding keyings
    met n p = by_case (top_met b.healthy b.seats b.order)
      where
        by_case : (top ≡ 0) ⊎ Met b.healthy b.seats top → (m : ℕ) × TakesPart b m × (rank_of m ≡ top)
        by_case (inl z) = absurd (let l = below_top n p in let g = ranked (last_field b n).ptt p.not_off p.known in omega arith)
        by_case (inr m) = (m.0, part_is m.0 m.1, m.2)

    top_rank_lem : (n : ℕ) → AtTop b n → rank_of n ≡ top
    top_rank_lem n t = by_case (met n t.part) (ltb (rank_of n) top) refl
      where
        by_case : (m : ℕ) × TakesPart b m × (rank_of m ≡ top) → (u : Bool) → ltb (rank_of n) top ≡ u → rank_of n ≡ top
        by_case m true e =
            absurd (t.none_above m.0 m.1
            (higher_above _ _ m.1.not_off m.1.known t.part.not_off t.part.known (let l = ltb-true (rank_of n) top e in let g = m.2 in omega arith)))
        by_case m false e = let l = ltb-false (rank_of n) top e in let g = below_top n t.part in omega arith

    at_top : (n : ℕ) → TakesPart b n → rank_of n ≡ top → AtTop b n
    at_top n p e = record { part = p; none_above = λ m q over. let h = above_higher over in let l = below_top m q in omega arith }

    abbrev passes : ℕ → ℕ → Bool
    passes r n = takes_part b.healthy (seat_of b.seats n) && eqb (rank_of n) r

    passed : (r n : ℕ) → passes r n ≡ true → TakesPart b n × (rank_of n ≡ r)
    passed r n h =
        let part = takes_part b.healthy (seat_of b.seats n) in
        (part_is n (and_left part (eqb (rank_of n) r) h), eqb-true (rank_of n) r (and_right part (eqb (rank_of n) r) h))

    pass : (r n : ℕ) → TakesPart b n → rank_of n ≡ r → passes r n ≡ true
    pass r n p e = grind (arith, nat_tests, is_part n p)

    at_rank_lem : (r n : ℕ) → among (at_rank r (keyings b)) n ≡ among b.order n && passes r n
    unfolding keyings
    at_rank_lem r n = rw (at_chosen b.healthy b.seats r b.order) (among_chosen (passes r) b.order n)

    is_at_rank : (r n : ℕ) → among (at_rank r (keyings b)) n ≡ true → TakesPart b n × (rank_of n ≡ r)
    is_at_rank r n h = passed r n (and_right (among b.order n) (passes r n) (sym (at_rank_lem r n) ∙ h))

    stands_at : (r n : ℕ) → TakesPart b n → rank_of n ≡ r → among (at_rank r (keyings b)) n ≡ true
    stands_at r n p e = grind (arith, at_rank_lem, in_order n p, pass r n p)

    first_is : (n : ℕ) → among (the_first (at_rank top (keyings b))) n ≡ true
        → (m : ℕ) → TakesPart b m → (last_field b m).ptt ≡ (last_field b n).ptt → rank_of n ≡ top → place_of n b.order ≤ place_of m b.order
    unfolding keyings
    first_is n h m p same e =
        first_place (passes top) b.order n (subst (λ (l : List ℕ). among (the_first l) n ≡ true) (at_chosen b.healthy b.seats top b.order) h) m
        (pass top m p (ap rank same ∙ e))

    is_first : (n : ℕ) → AtTop b n → ((m : ℕ) → TakesPart b m → (last_field b m).ptt ≡ (last_field b n).ptt → place_of n b.order ≤ place_of m b.order)
        → among (the_first (at_rank top (keyings b))) n ≡ true
    unfolding keyings
    is_first n t first =
        let e = top_rank_lem n t in
        rw (at_chosen b.healthy b.seats top b.order)
        (least_first (passes top) b.order n (in_order n t.part) (pass top n t.part e)
        (λ m there ok. let q = passed top m ok in first m q.0 (same_type m n q.0 t.part (q.1 ∙ sym e))))

    leads_to : (n : ℕ) → among (leaders b.setup (keyings b)) n ≡ true → Leads b n
    unfolding leaders
    leads_to n h = by_mode b.setup.equal_summation refl h
      where
        by_mode : (t : Bool) → b.setup.equal_summation ≡ t → among (cond t (at_rank top (keyings b)) (the_first (at_rank top (keyings b)))) n ≡ true → Leads b n
        by_mode true e h = let q = is_at_rank top n h in all_of_them (at_top n q.0 q.1) e
        by_mode false e h =
            let q = is_at_rank top n (first_among (at_rank top (keyings b)) n h) in
            the_first_one (at_top n q.0 q.1) e (λ m p same. first_is n h m p same q.1)

    leads_from : (n : ℕ) → Leads b n → among (leaders b.setup (keyings b)) n ≡ true
    unfolding leaders keyings
    leads_from n (all_of_them t mode) = grind (arith, stands_at top n t.part, top_rank_lem n t)
    leads_from n (the_first_one t mode first) = rw mode (is_first n t first)

    added_to : (n : ℕ) → among (added b.setup (keyings b)) n ≡ true → IsAdded b n
    unfolding added
    added_to n h = by_mode b.setup.coupling_summation (ltb 2 top) refl refl h
      where
        by_mode : (t u : Bool) → b.setup.coupling_summation ≡ t → ltb 2 top ≡ u → among (cond (t && u) (at_rank 2 (keyings b)) []) n ≡ true → IsAdded b n
        by_mode true true e f h =
            let q = is_at_rank 2 n h in
            let m = met n q.0 in
            record {
              mode = e;
              part = q.0;
              coupling = sym (type_of_rank _ q.0.not_off q.0.known) ∙ ap type_of q.1;
              other = m.0;
              takes_part = m.1;
              higher = higher_above _ 2 m.1.not_off m.1.known (omega arith) (omega arith) (let l = ltb-true 2 top f in let g = m.2 in omega arith);
            }
        by_mode true false e f h = absurd (false≢true (unfold among in h))
        by_mode false u e f h = absurd (false≢true (unfold among in h))

    added_from : (n : ℕ) → IsAdded b n → among (added b.setup (keyings b)) n ≡ true
    unfolding added among top_rank keyings
    added_from n a = grind (arith, nat_tests, above_higher a.higher, below_top a.other a.takes_part, stands_at 2 n a.part, a.mode, a.coupling)

    on_to : (n : ℕ) → among (on_air b.setup (keyings b)) n ≡ true → OnAir b n
    unfolding on_air
    on_to n h =
        by_case (among (leaders b.setup (keyings b)) n) refl (sym (among_both (leaders b.setup (keyings b)) (added b.setup (keyings b)) n) ∙ h)
      where
        by_case : (t : Bool) → among (leaders b.setup (keyings b)) n ≡ t → t || among (added b.setup (keyings b)) n ≡ true → OnAir b n
        by_case true e h = inl (leads_to n e)
        by_case false e h = inr (added_to n h)

    on_from : (n : ℕ) → OnAir b n → among (on_air b.setup (keyings b)) n ≡ true
    unfolding on_air
    on_from n (inl l) = grind (arith, among_both, leads_from n l)
    on_from n (inr a) = grind (arith, among_both, added_from n a)

    -- ---- what is shown

    all_numbers : (n : ℕ) → no_such_seat n ≡ false → among seat_numbers n ≡ true
    unfolding among
    all_numbers = each_seat (λ n. among seat_numbers n ≡ true) (refl, refl, refl, refl, refl, refl, refl, refl)

    marked : (set : List ℕ) (P : Type 0) (n : ℕ) → (among set n ≡ true → P) → (P → among set n ≡ true) → (P → TakesPart b n)
        → (entry_of false (map (among set) seat_numbers) n ≡ true) ↔ P
    marked set P n to from part = (
      λ h. to (sym (at_seat (among set) false n (flag_is_seat (map (among set) seat_numbers) n h)) ∙ h),
      λ p. at_seat (among set) false n (is_seat n (part p)) ∙ from p,
    )

    nobody : ((n : ℕ) → TakesPart b n → ⊥) → ((bench_air b).ptt ≡ 0) × ((bench_air b).id ≡ 0)
    unfolding bench_air air_of keyings leaders at_rank top_rank smallest among
    nobody none = rw (none_keyed b.healthy b.seats b.order (λ n. out n (takes_part b.healthy (seat_of b.seats n)) refl)) (refl, by_mode b.setup.equal_summation)
      where
        out : (n : ℕ) (t : Bool) → takes_part b.healthy (seat_of b.seats n) ≡ t → t ≡ false
        out n true e = absurd (none n (part_is n e))
        out n false e = refl

        by_mode : (t : Bool) → smallest (cond t [] []) seat_numbers ≡ 0
        by_mode true = refl
        by_mode false = refl

    top_type : (n : ℕ) → AtTop b n → (bench_air b).ptt ≡ (last_field b n).ptt
    unfolding bench_air air_of
    top_type n t = ap type_of (sym (top_rank_lem n t)) ∙ type_of_rank _ t.part.not_off t.part.known

    -- among those at the top one began first
    some_leads : (n : ℕ) → TakesPart b n → (k : ℕ) × Leads b k
    unfolding leaders among
    some_leads n p = by_mode b.setup.equal_summation refl (met n p)
      where
        one : (l : List ℕ) (m : ℕ) → among l m ≡ true → (k : ℕ) × (among (the_first l) k ≡ true)
        one [] m h = absurd (false≢true h)
        one (k ∷ l) m h = (k, rw (eq-eqb k k refl))

        by_mode : (t : Bool) → b.setup.equal_summation ≡ t → (m : ℕ) × TakesPart b m × (rank_of m ≡ top) → (k : ℕ) × Leads b k
        by_mode true e m = (m.0, all_of_them (at_top m.0 m.1 m.2) e)
        by_mode false e m =
            let k = one (at_rank top (keyings b)) m.0 (stands_at top m.0 m.1 m.2) in
            (k.0, leads_to k.0 (subst (λ (t : Bool). among (cond t (at_rank top (keyings b)) (the_first (at_rank top (keyings b)))) k.0 ≡ true) (sym e) k.1))

    an_id : (n : ℕ) → TakesPart b n → Leads b (bench_air b).id
    unfolding bench_air air_of
    an_id n p =
        let k = some_leads n p in
        leads_to _ (smallest_among (leaders b.setup (keyings b)) seat_numbers k.0 (all_numbers k.0 (is_seat k.0 (leads_part k.0 k.1))) (leads_from k.0 k.1))

    smallest_id : (n : ℕ) → Leads b n → (bench_air b).id ≤ n
    unfolding bench_air air_of
    smallest_id n l = smallest_least (leaders b.setup (keyings b)) seat_numbers 0 seats_rise n (all_numbers n (is_seat n (leads_part n l))) (leads_from n l)

    abbrev on_list : List ℕ
    on_list = on_air b.setup (keyings b)

    tells_to : (bench_air b).ptts ≡ true → TellsPtts b
    unfolding bench_air air_of
    tells_to h = by_count (leb 2 (how_many (among on_list) seat_numbers)) refl h
      where
        by_count : (t : Bool) → leb 2 (how_many (among on_list) seat_numbers) ≡ t → t || any_sends b.seats on_list seat_numbers ≡ true → TellsPtts b
        by_count true e h =
            let two = found_two (among on_list) 0 seat_numbers seats_rise (leb-true 2 (how_many (among on_list) seat_numbers) e) in
            several two.0 two.1 (on_to two.0 two.2) (on_to two.1 two.3) two.4
        by_count false e h = let one = sends_found b.seats on_list seat_numbers h in sent one.0 (on_to one.0 one.1) one.2

    tells_from : TellsPtts b → (bench_air b).ptts ≡ true
    unfolding bench_air air_of
    tells_from (several m n p q apart) =
        let two = counts_two (among on_list) seat_numbers m n (all_numbers m (is_seat m (on_air_part m p))) (all_numbers n (is_seat n (on_air_part n q))) (on_from m p) (on_from n q) apart in
        rw (le-leb 2 (how_many (among on_list) seat_numbers) two)
    tells_from (sent n p e) =
        let one = sends_one b.seats on_list seat_numbers n (all_numbers n (is_seat n (on_air_part n p))) (on_from n p) e in
        rw one (or_true (leb 2 (how_many (among on_list) seat_numbers)))

    pub shows : Shows b (bench_air b)
    unfolding bench_air air_of
    shows =
        record {
          on = λ n. marked (on_air b.setup (keyings b)) (OnAir b n) n (on_to n) (on_from n) (on_air_part n);
          leads = λ n. marked (leaders b.setup (keyings b)) (Leads b n) n (leads_to n) (leads_from n) (leads_part n);
          nobody = nobody;
          top_type = top_type;
          an_id = an_id;
          smallest_id = smallest_id;
          ptts = (tells_to, tells_from);
        }
