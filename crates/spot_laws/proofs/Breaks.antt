-- The breaks of a design stand at tokens of their instance's text.
use Rattle.std.proofs.Common.{inl, inr, ℕ, suc, ◌≤◌, ◌^◌, false, ◌&&◌, not, cond, List, [], ◌∷◌, ◌++◌, length, flat_map, refl, sym, subst}
use Rattle.std.specs.Prelude.{nat_lt}
use Rattle.std.proofs.lemmas.Bool.{eq-eqb}
use Rattle.row_machine.specs.Valuation.{Member}
use Rattle.sv_source.specs.declared.token.Spot.{Spot}
use Rattle.sv_types.specs.declared.statement.Function.{Function}
use Rattle.sv_types.specs.declared.design.Design.{Design}
use Rattle.sv_types.specs.declared.design.Process.{Process}
use Rattle.sv_types.specs.declared.design.Signal.{Signal}
use Rattle.sv_types.specs.Layouts.{width_of}
use Rattle.sv_types.proofs.Terms.{Each}
use Rattle.design_breaks.specs.declared.Break.{Break}
use Rattle.design_breaks.specs.Memories.{is_edged, is_memory, is_unpacked_array}
use Rattle.design_breaks.specs.Breaks as B
use Rattle.design_breaks.specs.Breaks.{at_each, breaks, process_breaks, function_breaks, too_wide, numbered}
use Rattle.design_breaks.specs.Spots.{Spots, if_here, process_spots, function_spots}
use Rattle.spot_laws.specs.Laws.{StandsIn, BreaksHaveSpots}
use Rattle.spot_laws.proofs.Each.{each-append, each-flat, each-only, each-of, each-member}
use Rattle.spot_laws.proofs.Exprs.{AtSpot}
use Rattle.spot_laws.proofs.Bodies as P

-- members of lists
member-left : {A : Type 0} (xs ys : List A) (x : A) → Member xs x → Member (xs ++ ys) x
member-left [] ys x m = elim m [ ]
member-left (y ∷ xs) ys x (inl is) = inl is
member-left (y ∷ xs) ys x (inr m) = inr (member-left xs ys x m)

member-right : {A : Type 0} (xs ys : List A) (x : A) → Member ys x → Member (xs ++ ys) x
member-right [] ys x m = m
member-right (y ∷ xs) ys x m = inr (member-right xs ys x m)

member-flat : {A B : Type 0} (f : A → List B) (xs : List A) (x : A) (y : B) → Member xs x → Member (f x) y → Member (flat_map f xs) y
member-flat f [] x y m g = elim m [ ]
member-flat f (z ∷ xs) x y (inl is) g = member-left (f z) (flat_map f xs) y (subst (λ a. Member (f a) y) is g)
member-flat f (z ∷ xs) x y (inr m) g = member-right (f z) (flat_map f xs) y (member-flat f xs x y m g)

member-here : (n : ℕ) (ss : Spots) (s : Spot) → Member ss s → Member (if_here n n ss) s
member-here n ss s m = subst (λ b. Member (cond b ss []) s) (sym (eq-eqb n n refl)) m

module _ (d : Design) where
  abbrev Stands : Break → Type 0
  Stands b = StandsIn d b.instance b.at

  each-stands : (instance rule : ℕ) (ns : List ℕ) → Each (StandsIn d instance) ns → Each Stands (at_each instance rule ns)
  each-stands instance rule [] h = tt
  each-stands instance rule (n ∷ ns) h = (h.0, each-stands instance rule ns h.1)

  each-numbered : {A : Type 0} (P : ℕ × A → Type 0) (n : ℕ) (xs : List A) → ((k : ℕ) (x : A) → Member xs x → P (k, x)) → Each P (numbered d n xs)
  each-numbered P n [] f = tt
  each-numbered P n (x ∷ xs) f = (f n x (inl refl), each-numbered P (suc n) xs (λ k y m. f k y (inr m)))

  -- what stands in the text of an instance
  abbrev in_processes : ℕ → Spots
  in_processes n = flat_map (λ (p : Process). if_here n p.instance (process_spots p)) d.processes

  abbrev in_functions : ℕ → Spots
  in_functions n = flat_map (λ (f : Function). if_here n f.instance (function_spots f)) d.functions

  abbrev in_signals : ℕ → Spots
  in_signals n = flat_map (λ (s : Signal). if_here n s.instance (s.spot ∷ [])) d.signals

  process-stands : (p : Process) → Member d.processes p → Each (AtSpot (StandsIn d p.instance)) (process_spots p)
  process-stands p m = each-member (AtSpot (StandsIn d p.instance)) (process_spots p) (λ s i. record {
    spot = s;
    stands = member-left (in_processes p.instance) (in_functions p.instance ++ in_signals p.instance) s
        (member-flat (λ (q : Process). if_here p.instance q.instance (process_spots q)) d.processes p s m (member-here p.instance (process_spots p) s i));
    at_it = refl;
  })

  function-stands : (f : Function) → Member d.functions f → Each (AtSpot (StandsIn d f.instance)) (function_spots f)
  function-stands f m = each-member (AtSpot (StandsIn d f.instance)) (function_spots f) (λ s i. record {
    spot = s;
    stands = member-right (in_processes f.instance) (in_functions f.instance ++ in_signals f.instance) s
        (member-left (in_functions f.instance) (in_signals f.instance) s
        (member-flat (λ (g : Function). if_here f.instance g.instance (function_spots g)) d.functions f s m (member-here f.instance (function_spots f) s i)));
    at_it = refl;
  })

  signal-stands : (s : Signal) → Member d.signals s → StandsIn d s.instance s.spot.at
  signal-stands s m = record {
    spot = s.spot;
    stands = member-right (in_processes s.instance) (in_functions s.instance ++ in_signals s.instance) s.spot
        (member-right (in_functions s.instance) (in_signals s.instance) s.spot
        (member-flat (λ (t : Signal). if_here s.instance t.instance (t.spot ∷ [])) d.signals s s.spot m (member-here s.instance (s.spot ∷ []) s.spot (inl refl))));
    at_it = refl;
  }

  process-breaks-stand : length d.signals ≤ 2 ^ 32 → (n : ℕ) (p : Process) → Member d.processes p → Each Stands (process_breaks d (n, p))
  process-breaks-stand few n p m =
      let S = StandsIn d p.instance in
      let i = p.instance in
      let h = process-stands p m in
      let b = P.body-speaks S d few p h in
      let twice = B.written_twice d n p in
      let drives = B.drives_a_value d p in
      let early = B.read_early d p in
      let local = B.local_early d p in
      let edged = is_edged p.kind in
      let r703 = at_each i 703 (B.too_long d p.body p.spot.at) in
      let r611 = at_each i 611 (B.writes_input d p) ++ r703 in
      let r608 = at_each i 608 (B.endless_of d p.body) ++ r611 in
      let r607 = at_each i 607 (B.unfit_edges d p) ++ r608 in
      let r606 = at_each i 606 (B.deferred d edged p.body) ++ r607 in
      let r605 = at_each i 605 (B.at_once d p) ++ r606 in
      let r604 = at_each i 604 (early ++ local) ++ r605 in
      let r603 = at_each i 603 (B.left_out d p) ++ r604 in
      each-append Stands (at_each i 601 (twice ++ drives)) r603 (each-stands i 601 (twice ++ drives) (each-append S twice drives (P.twice-stand S d few p h n) (P.drives-stand S d few p h)))
      (each-append Stands (at_each i 603 (B.left_out d p)) r604 (each-stands i 603 (B.left_out d p) (P.left-stand S d few p h))
      (each-append Stands (at_each i 604 (early ++ local)) r605 (each-stands i 604 (early ++ local) (each-append S early local (P.early-stand S d few p h) (P.local-stand S d few p h)))
      (each-append Stands (at_each i 605 (B.at_once d p)) r606 (each-stands i 605 (B.at_once d p) (P.once-stand S d few p h))
      (each-append Stands (at_each i 606 (B.deferred d edged p.body)) r607 (each-stands i 606 (B.deferred d edged p.body) (P.deferred-stands S d edged p.body b))
      (each-append Stands (at_each i 607 (B.unfit_edges d p)) r608 (each-stands i 607 (B.unfit_edges d p) (P.edges-stand S d few p h))
      (each-append Stands (at_each i 608 (B.endless_of d p.body)) r611 (each-stands i 608 (B.endless_of d p.body) (P.endless-stands S d p.body b))
      (each-append Stands (at_each i 611 (B.writes_input d p)) r703 (each-stands i 611 (B.writes_input d p) (P.input-stand S d few p h))
      (each-stands i 703 (B.too_long d p.body p.spot.at) (P.long-stands S d p.body p.spot.at h.0)))))))))

  function-breaks-stand : (n : ℕ) (f : Function) → Member d.functions f → Each Stands (function_breaks d (n, f))
  function-breaks-stand n f m =
      let S = StandsIn d f.instance in
      let i = f.instance in
      let h = function-stands f m in
      let b = P.function-speaks S d f h in
      let r703 = at_each i 703 (B.too_long d f.body f.spot.at) in
      let r608 = at_each i 608 (B.endless_of d f.body) ++ r703 in
      let r606 = at_each i 606 (B.deferred d false f.body) ++ r608 in
      let r604 = at_each i 604 (B.result_early d f) ++ r606 in
      let r603 = at_each i 603 (B.result_left_out d f) ++ r604 in
      each-only Stands (B.is_called d (length d.functions) n) r603
      (λ is. each-append Stands (at_each i 603 (B.result_left_out d f)) r604 (each-stands i 603 (B.result_left_out d f) (P.result-stand S d f h))
      (each-append Stands (at_each i 604 (B.result_early d f)) r606 (each-stands i 604 (B.result_early d f) (P.result-early-stand S d f h))
      (each-append Stands (at_each i 606 (B.deferred d false f.body)) r608 (each-stands i 606 (B.deferred d false f.body) (P.deferred-stands S d false f.body b))
      (each-append Stands (at_each i 608 (B.endless_of d f.body)) r703 (each-stands i 608 (B.endless_of d f.body) (P.endless-stands S d f.body b))
      (each-stands i 703 (B.too_long d f.body f.spot.at) (P.long-stands S d f.body f.spot.at h.0))))))

  signal-breaks-stand : (n : ℕ) (s : Signal) → Member d.signals s → Each Stands (too_wide d (n, s))
  signal-breaks-stand n s m =
      each-only Stands (is_unpacked_array s.of && (nat_lt (B.most_bits d) (width_of s.of) && (B.is_settled d n && not (is_memory d n s))))
      (record { instance = s.instance; at = s.spot.at; rule = 701 } ∷ []) (λ is. (signal-stands s m, tt))

  each-break : length d.signals ≤ 2 ^ 32 → Each Stands (breaks d)
  each-break few =
      each-append Stands (flat_map (process_breaks d) (numbered d 0 d.processes)) (flat_map (function_breaks d) (numbered d 0 d.functions) ++ flat_map (too_wide d) (numbered d 0 d.signals))
      (each-flat Stands (process_breaks d) (numbered d 0 d.processes) (each-numbered (λ x. Each Stands (process_breaks d x)) 0 d.processes (process-breaks-stand few)))
      (each-append Stands (flat_map (function_breaks d) (numbered d 0 d.functions)) (flat_map (too_wide d) (numbered d 0 d.signals))
      (each-flat Stands (function_breaks d) (numbered d 0 d.functions) (each-numbered (λ x. Each Stands (function_breaks d x)) 0 d.functions function-breaks-stand))
      (each-flat Stands (too_wide d) (numbered d 0 d.signals) (each-numbered (λ x. Each Stands (too_wide d x)) 0 d.signals signal-breaks-stand)))

pub have-spots : BreaksHaveSpots
have-spots d few b m = each-of (Stands d) (breaks d) (each-break d few) b m
