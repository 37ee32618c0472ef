-- A trace doesn't look at what processes are said to read and write.
use Rattle.std.proofs.Common.{◌≡◌, ◌≤◌, ℕ, zero, suc, Bool, not, cond, ◌&&◌, ◌||◌, List, [], ◌∷◌, refl, sym, ap, ◌∙◌, subst, arith}
use Rattle.std.specs.List.{AllZip, list_any}
use Rattle.row_machine.specs.Valuation.{Valuation, Changes, only_if, put, put_each}
use Rattle.row_machine.specs.Machine.{Process, Machine, Started, at_zero, told, base_of, after_edges}
use Rattle.row_machine.specs.Settle.{Settled, SettlesBy, ends, goes_on, differs, woken, adds}
use Rattle.row_machine.specs.Trace.{RowStepBy, TraceBy, done, row}
use Rattle.row_machine.specs.Rounds.{round, after_rounds, written_bits, Reaches}
use Rattle.row_machine.specs.Footprints.{RunAlike, UpdateAlike, SameRuns, SameTraces}

-- lists whose elements assign the same overwrite alike
put_alike : {A : Type 0} (R : A → A → Type 0) (c c' : A → Changes) → ((x y : A) → R x y → c x ≡ c' y) → (xs ys : List A) → AllZip R xs ys → (v : Valuation) → put_each c xs v ≡ put_each c' ys v
put_alike R c c' same [] [] h v = refl
put_alike R c c' same [] (y ∷ ys) h v = absurd h
put_alike R c c' same (x ∷ xs) [] h v = absurd h
put_alike R c c' same (x ∷ xs) (y ∷ ys) h v = put_alike R c c' same xs ys h.1 (put (c x) v) ∙ ap (λ k. put_each c' ys (put k v)) (same x y h.0)

any_alike : {A : Type 0} (R : A → A → Type 0) (f g : A → Bool) → ((x y : A) → R x y → f x ≡ g y) → (xs ys : List A) → AllZip R xs ys → list_any f xs ≡ list_any g ys
any_alike R f g same [] [] h = refl
any_alike R f g same [] (y ∷ ys) h = absurd h
any_alike R f g same (x ∷ xs) [] h = absurd h
any_alike R f g same (x ∷ xs) (y ∷ ys) h = λ i. same x y h.0 i || any_alike R f g same xs ys h.1 i

zip_both : {A : Type 0} (R S T : A → A → Type 0) → ((x y : A) → R x y → S x y → T x y) → (xs ys : List A) → AllZip R xs ys → AllZip S xs ys → AllZip T xs ys
zip_both R S T f [] [] a b = tt
zip_both R S T f [] (y ∷ ys) a b = absurd a
zip_both R S T f (x ∷ xs) [] a b = absurd a
zip_both R S T f (x ∷ xs) (y ∷ ys) a b = (f x y a.0 b.0, zip_both R S T f xs ys a.1 b.1)

module _ (d e : Machine) (same : SameRuns d e) where
  -- twins are started together
  record Twins (s s' : Started) (p t : Process) : Type 0 where
    pub runs : RunAlike p t
    pub started : s p ≡ s' t

  abbrev Alike : Started → Started → Type 0
  Alike s s' = AllZip (Twins s s') d.combs e.combs

  same_initial : d.initial ≡ e.initial
  same_initial = λ i q. same.initial q i

  twin_told : (s s' : Started) (v : Valuation) (p t : Process) → Twins s s' p t → told s v p ≡ told s' v t
  twin_told s s' v p t h = λ i. only_if (h.started i) (λ q. h.runs.assigns v q i)

  round_alike : (s s' : Started) → Alike s s' → (base v : Valuation) → round d s base v ≡ round e s' base v
  round_alike s s' h base v = put_alike (Twins s s') (told s v) (told s' v) (twin_told s s' v) d.combs e.combs h base

  settled_alike : (s s' : Started) → Alike s s' → (base v : Valuation) → Settled d s base v → Settled e s' base v
  settled_alike s s' h base v a = a ∙ round_alike s s' h base v

  twin_differs : (v : Valuation) (p t : Process) → RunAlike p t → differs p.waits_for v d.initial ≡ differs t.waits_for v e.initial
  twin_differs v p t h = λ i. differs (h.waits_for i) v (same_initial i)

  twin_woken : (s s' : Started) (v : Valuation) (p t : Process) → Twins s s' p t → Twins (woken d v s) (woken e v s') p t
  twin_woken s s' v p t h = record { runs = h.runs; started = λ i. h.started i || twin_differs v p t h.runs i }

  woken_alike : (s s' : Started) → Alike s s' → (v : Valuation) → Alike (woken d v s) (woken e v s')
  woken_alike s s' h v = zip_both (Twins s s') (Twins s s') (Twins (woken d v s) (woken e v s')) (λ p t a b. twin_woken s s' v p t a) d.combs e.combs h h

  adds_alike : (s s' : Started) → Alike s s' → (v : Valuation) → adds d v s ≡ adds e v s'
  adds_alike s s' h v =
      any_alike (Twins s s') (λ p. not (s p) && differs p.waits_for v d.initial) (λ t. not (s' t) && differs t.waits_for v e.initial)
      (λ p t a. λ i. not (a.started i) && twin_differs v p t a.runs i) d.combs e.combs h

  base_alike : (r now : Valuation) → base_of d r now ≡ base_of e r now
  base_alike r now = λ i q. cond (same.inputs q i) (r q) (now q)

  edges_alike : (last w : Valuation) → after_edges d last w ≡ after_edges e last w
  edges_alike last w =
      put_alike UpdateAlike (λ p. only_if (p.runs last w) (p.updates w)) (λ t. only_if (t.runs last w) (t.updates w))
      (λ p t h. λ i. only_if (h.runs last w i) (λ q. h.updates w q i)) d.edges e.edges same.edges w

  zero_alike : Alike at_zero at_zero
  zero_alike = zip_both RunAlike RunAlike (Twins at_zero at_zero) (λ p t a b. record { runs = a; started = a.from_zero }) d.combs e.combs same.combs same.combs

  -- a notion of settled that holds of the second machine where one does of the first
  module _ (A B : Started → Valuation → Valuation → Type 0) (both : (s s' : Started) → Alike s s' → (base v : Valuation) → A s base v → B s' base v) where
    settles : {base : Valuation} {s t : Started} {v : Valuation} → SettlesBy A d base s t v → (s' : Started) → Alike s s' → (t' : Started) × SettlesBy B e base s' t' v × Alike t t'
    settles {base = base} (ends {s = s} {v = v} a over) s' h = (s', ends (both s s' h base v a) (sym (adds_alike s s' h v) ∙ over), h)
    settles {base = base} (goes_on {s = s} {v = v} a more rest) s' h =
        let next = settles rest (woken e v s') (woken_alike s s' h v) in
        (next.0, goes_on (both s s' h base v a) (sym (adds_alike s s' h v) ∙ more) next.1, next.2)

    step : (r last held v : Valuation) (s t s' : Started) → Alike s s' → RowStepBy A d r last held s t v → (t' : Started) × RowStepBy B e r last held s' t' v × Alike t t'
    step r last held v s t s' h a =
        let first = settles a.inputs_settle s' h in
        let second = settles a.updates_settle first.0 first.2 in (
          second.0,
          record {
            quiet = a.quiet;
            started = first.0;
            inputs_settle = subst (λ b. SettlesBy B e b s' first.0 a.quiet) (base_alike r held) first.1;
            updates_settle = subst (λ b. SettlesBy B e b first.0 second.0 v) (base_alike r (after_edges d last a.quiet) ∙ ap (base_of e r) (edges_alike last a.quiet)) second.1;
          },
          second.2,
        )

    traces : {last held : Valuation} {s : Started} {rows vs : List Valuation} → TraceBy A d last held s rows vs → (s' : Started) → Alike s s' → TraceBy B e last held s' rows vs
    traces done s' h = done
    traces (row {r = r} {last = last} {held = held} {v = v} {s = s} {t = t} a rest) s' h = let one = step r last held v s t s' h a in row one.1 (traces rest one.0 one.2)

    from_zero : (rows vs : List Valuation) → TraceBy A d d.initial d.start at_zero rows vs → TraceBy B e e.initial e.start at_zero rows vs
    from_zero rows vs a =
        subst (λ x. TraceBy B e x e.start at_zero rows vs) same_initial (subst (λ x. TraceBy B e d.initial x at_zero rows vs) (λ i q. same.start q i) (traces a at_zero zero_alike))

  module _ (s s' : Started) (h : Alike s s') (base : Valuation) where
    rounds_alike : (n : ℕ) (v : Valuation) → after_rounds d s base n v ≡ after_rounds e s' base n v
    rounds_alike zero v = refl
    rounds_alike (suc n) v = rounds_alike n (round d s base v) ∙ ap (after_rounds e s' base n) (round_alike s s' h base v)

    reaches_alike : written_bits d.combs ≤ written_bits e.combs → (v : Valuation) → Reaches d s base v → Reaches e s' base v
    reaches_alike le v a = record {
      rounds = a.rounds;
      within = omega (arith, a.within, le);
      reached = sym (rounds_alike a.rounds base) ∙ a.reached;
      stays = sym (round_alike s s' h base v) ∙ a.stays;
    }

zip_back : {A : Type 0} (R S : A → A → Type 0) → ((x y : A) → R x y → S y x) → (xs ys : List A) → AllZip R xs ys → AllZip S ys xs
zip_back R S f [] [] h = tt
zip_back R S f [] (y ∷ ys) h = absurd h
zip_back R S f (x ∷ xs) [] h = absurd h
zip_back R S f (x ∷ xs) (y ∷ ys) h = (f x y h.0, zip_back R S f xs ys h.1)

turned : (d e : Machine) → SameRuns d e → SameRuns e d
turned d e same = record {
  combs = zip_back RunAlike RunAlike (λ p t h. record { from_zero = sym h.from_zero; waits_for = sym h.waits_for; assigns = λ v q. sym (h.assigns v q) }) d.combs e.combs same.combs;
  edges = zip_back UpdateAlike UpdateAlike (λ p t h. record { runs = λ v w. sym (h.runs v w); updates = λ v q. sym (h.updates v q) }) d.edges e.edges same.edges;
  inputs = λ q. sym (same.inputs q);
  initial = λ q. sym (same.initial q);
  start = λ q. sym (same.start q);
}

pub same_traces : (d e : Machine) → SameRuns d e → SameTraces d e
same_traces d e same = record {
  traces = λ rows vs. (
    from_zero d e same (Settled d) (Settled e) (settled_alike d e same) rows vs,
    from_zero e d (turned d e same) (Settled e) (Settled d) (settled_alike e d (turned d e same)) rows vs,
  );
  rounds = λ le rows vs. from_zero d e same (Reaches d) (Reaches e) (λ s s' h base v. reaches_alike d e same s s' h base le v) rows vs;
}
