-- Settled valuations of a typed machine are typed.
use Rattle.std.proofs.Common.{◌≡◌, Bool, true, false, cond, List, [], ◌∷◌, Option, Some, None, refl, sym, ap, ◌∙◌, subst, inl, inr}
use Rattle.b4_core.specs.declared.bit.Bit4.{Bit4}
use Rattle.row_machine.specs.Valuation.{Place, Valuation, Changes, Member, has, changed, only_if, put, put_each, NoneWrites}
use Rattle.row_machine.specs.Machine.{Process, EdgeProcess, Machine, Started, told, base_of, after_edges}
use Rattle.row_machine.specs.Settle.{Settled}
use Rattle.row_machine.specs.Order.{Sound, Free, free}
use Rattle.row_machine.specs.Agreement.{Map, Fits, Typed, TypedMachine}
use Rattle.row_machine.proofs.Basics.{follows_writer}
use Rattle.row_machine.proofs.Writes.{writer}
use Rattle.row_machine.proofs.Told.{of_process, at_rest, at_writer, only_if-same}

module _ (m : Map) where
  changed_fits : (o : Option Bit4) (b : Bit4) (q : Place) → Fits m q b → ((x : Bit4) → o ≡ Some x → Fits m q x) → Fits m q (changed o b)
  changed_fits None b q at_b at_o = at_b
  changed_fits (Some x) b q at_b at_o = at_o x refl

  only_if_fits : (b : Bool) (c : Changes) (q : Place) → ((x : Bit4) → c q ≡ Some x → Fits m q x) → (x : Bit4) → only_if b c q ≡ Some x → Fits m q x
  only_if_fits true c q h x e = h x e
  only_if_fits false c q h x e = absurd (none_some e)
    where
      none_some : {x : Bit4} → None ≡ Some x → ⊥
      none_some e = cc

  put_each_typed : {A : Type 0} (f : A → Changes) (xs : List A) (v : Valuation) → Typed m v → ((x : A) → Member xs x → (q : Place) (b : Bit4) → f x q ≡ Some b → Fits m q b) → Typed m (put_each f xs v)
  put_each_typed f [] v at_v at_f = at_v
  put_each_typed f (x ∷ xs) v at_v at_f =
      put_each_typed f xs (put (f x) v) (λ q. changed_fits (f x q) (v q) q (at_v q) (at_f x (inl refl) q)) (λ y m. at_f y (inr m))

  module _ (d : Machine) (typed : TypedMachine m d) where
    pub base_typed : (row now : Valuation) → ((q : Place) → has d.inputs q ≡ true → Fits m q (row q)) → Typed m now → Typed m (base_of d row now)
    base_typed row now at_row at_now q =
        choose (has d.inputs q) (at_row q)
      where
        choose : (a : Bool) → (a ≡ true → Fits m q (row q)) → Fits m q (cond a (row q) (now q))
        choose true h = h refl
        choose false h = at_now q

    pub after_edges_typed : (last w : Valuation) → Typed m w → Typed m (after_edges d last w)
    after_edges_typed last w at_w =
        put_each_typed (λ (p : EdgeProcess). only_if (p.runs last w) (p.updates w)) d.edges w at_w
        (λ p m q. only_if_fits (p.runs last w) (p.updates w) q (λ b e. typed.edges p m w at_w q b e))

    module _ (sound : Sound d) (s : Started) (base v : Valuation) (at_base : Typed m base) (settled : Settled d s base v) where
      rest_typed : (q : Place) → NoneWrites of_process d.combs q → Fits m q (v q)
      rest_typed q n = subst (Fits m q) (sym (at_rest d sound.well_written s v base q n) ∙ sym (ap (λ f. f q) settled)) (at_base q)

      -- the valuation as far as p reads it, else the base
      seen : Process → Valuation
      seen p r = cond (has p.reads r) (v r) (base r)

      seen_read : (p : Process) (r : Place) → has p.reads r ≡ true → v r ≡ seen p r
      unfolding seen
      seen_read p r h = ap (λ b. cond b (v r) (base r)) (sym h)

      seen_typed : (p : Process) → ((r : Place) → has p.reads r ≡ true → Fits m r (v r)) → Typed m (seen p)
      unfolding seen
      seen_typed p h r = choose (has p.reads r) (h r)
        where
          choose : (b : Bool) → (b ≡ true → Fits m r (v r)) → Fits m r (cond b (v r) (base r))
          choose true k = k refl
          choose false k = at_base r

      run_typed : (p : Process) → Member d.combs p → ((r : Place) → has p.reads r ≡ true → Fits m r (v r)) → (q : Place) → has p.writes q ≡ true → Fits m q (v q)
      run_typed p k reads q h =
          subst (Fits m q)
          (ap (λ o. changed o (base q)) (sym (only_if-same (s p) (p.assigns v) (p.assigns (seen p)) q q ((sound.honest p k).by_reads v (seen p) (seen_read p) q)))
          ∙ sym (at_writer d sound.well_written s v base p k q h)
          ∙ sym (ap (λ f. f q) settled))
          (changed_fits (told s (seen p) p q) (base q) q (at_base q)
          (only_if_fits (s p) (p.assigns (seen p)) q (typed.combs p k (seen p) (seen_typed p reads) q)))

      written_typed : (p : Process) → Free d.combs p → Member d.combs p → (q : Place) → has p.writes q ≡ true → Fits m q (v q)
      written_typed p (free h) m q e =
          run_typed p m
          (λ r reads. elim (writer of_process d.combs r) [
            | inl w ↦ written_typed w.0 (h w.0 w.1 (follows_writer p w.0 r reads w.2)) w.1 r w.2
            | inr n ↦ rest_typed r n
          ])
          q e

      pub settled_typed : Typed m v
      settled_typed q = elim (writer of_process d.combs q) [ inl w ↦ written_typed w.0 (sound.all_free w.0 w.1) w.1 q w.2 | inr n ↦ rest_typed q n ]
