-- The rounds of a sound machine come to rest within the bits that its processes write.
use Rattle.std.proofs.Common.{◌≡◌, ℕ, zero, suc, ◌+◌, ◌<◌, ◌≤◌, ◌⊎◌, Bool, true, false, not, ◌&&◌, List, [], ◌∷◌, length, refl, sym, ap, ◌∙◌, subst, inl, inr, arith}
use Rattle.std.proofs.lemmas.Bool.{and_parts, and_from, not-true, not_from_false}
use Rattle.std.specs.List.{list_any}
use Rattle.row_machine.specs.Valuation.{Place, Valuation, Member, has, changed, NoneWrites}
use Rattle.row_machine.specs.Machine.{Process, Machine, Started}
use Rattle.row_machine.specs.Settle.{Settled}
use Rattle.row_machine.specs.Order.{Sound, Free, free, follows}
use Rattle.row_machine.specs.Rounds.{round, after_rounds, written_bits, Reaches}
use Rattle.row_machine.proofs.Basics.{true_or_false, clash, has-member, member-any, any-member}
use Rattle.row_machine.proofs.Writes.{writer}
use Rattle.row_machine.proofs.Told.{of_process, at_rest, at_writer, same_told}
use Rattle.row_machine.proofs.Settled.{settled_once}
use Rattle.row_machine.proofs.Open.{open_weight, open_weight-falls}

-- how many bits a process writes
abbrev pub width_of : Process → ℕ
width_of p = length p.writes

some_bit : (qs : List Place) (q : Place) → has qs q ≡ true → 1 ≤ length qs
some_bit [] q h = elim (has-member [] q h) [ ]
some_bit (p ∷ ps) q h = omega arith

follows-writes : (p q : Process) → follows p q ≡ true → 1 ≤ width_of q
follows-writes p q f = let r = any-member (has q.writes) p.reads f in some_bit q.writes r.0 r.2

module _ (d : Machine) (sound : Sound d) (s : Started) (base : Valuation) where
  -- whether p follows a process that isn't done
  abbrev waits : (Process → Bool) → Process → Bool
  waits is_done p = list_any (λ q. follows p q && not (is_done q)) d.combs

  abbrev next_done : (Process → Bool) → Process → Bool
  next_done is_done p = not (waits is_done p)

  -- what the processes that are done write doesn't change any more
  record Stands (is_done : Process → Bool) (v : Valuation) : Type 0 where
    closed : (p : Process) → Member d.combs p → is_done p ≡ true → (q : Process) → Member d.combs q → follows p q ≡ true → is_done q ≡ true
    kept : (p : Process) → Member d.combs p → is_done p ≡ true → (q : Place) → has p.writes q ≡ true → round d s base v q ≡ v q
    outside : (q : Place) → NoneWrites of_process d.combs q → v q ≡ base q

  before_done : (is_done : Process → Bool) (p : Process) → next_done is_done p ≡ true → (q : Process) → Member d.combs q → follows p q ≡ true → is_done q ≡ true
  before_done is_done p ready q m f =
      elim (true_or_false (is_done q)) [
        | inl t ↦ t
        | inr n ↦ clash (waits is_done p) (member-any (λ x. follows p x && not (is_done x)) d.combs q m (and_from (follows p q) (not (is_done q)) f (not_from_false (is_done q) n))) (not-true (waits is_done p) ready)
      ]

  stays_done : (is_done : Process → Bool) (v : Valuation) → Stands is_done v → (p : Process) → Member d.combs p → is_done p ≡ true → next_done is_done p ≡ true
  stays_done is_done v st p m e =
      elim (true_or_false (waits is_done p)) [
        | inl t ↦ (let r = any-member (λ x. follows p x && not (is_done x)) d.combs t in
            let both = and_parts (follows p r.0) (not (is_done r.0)) r.2 in
            clash (is_done r.0) (st.closed p m e r.0 r.1 both.0) (not-true (is_done r.0) both.1))
        | inr n ↦ not_from_false (waits is_done p) n
      ]

  next_stands : (is_done : Process → Bool) (v : Valuation) → Stands is_done v → Stands (next_done is_done) (round d s base v)
  next_stands is_done v st = record {
    closed = λ p m e q mq f. stays_done is_done v st q mq (before_done is_done p e q mq f);
    kept = λ p m e q h.
        at_writer d sound.well_written s (round d s base v) base p m q h
        ∙ ap (λ o. changed o (base q)) (same_told d sound.well_written s (round d s base v) v p m
        (λ r n. at_rest d sound.well_written s v base r n ∙ sym (st.outside r n))
        (λ q2 m2 f r w. st.kept q2 m2 (before_done is_done p e q2 m2 f) r w) q)
        ∙ sym (at_writer d sound.well_written s v base p m q h);
    outside = λ q n. at_rest d sound.well_written s v base q n;
  }

  -- a process that isn't done, or else all are
  abbrev Open : (Process → Bool) → List Process → Type 0
  Open is_done ps = (p : Process) × Member ps p × (is_done p ≡ false) × (1 ≤ width_of p)

  abbrev AllDone : (Process → Bool) → List Process → Type 0
  AllDone is_done ps = (p : Process) → Member ps p → 1 ≤ width_of p → is_done p ≡ true

  done_with : (is_done : Process → Bool) (p : Process) (ps : List Process) → (1 ≤ width_of p → is_done p ≡ true) → AllDone is_done ps → AllDone is_done (p ∷ ps)
  done_with is_done p ps here rest q (inl e) w = subst (λ z. is_done z ≡ true) (sym e) (here (subst (λ z. 1 ≤ width_of z) e w))
  done_with is_done p ps here rest q (inr m) w = rest q m w

  no_width : (n : ℕ) → (n ≡ 0) ⊎ (1 ≤ n)
  no_width zero = inl refl
  no_width (suc n) = inr (omega arith)

  open_or_done : (is_done : Process → Bool) (ps : List Process) → Open is_done ps ⊎ AllDone is_done ps
  open_or_done is_done [] = inr (λ p m w. elim m [ ])
  open_or_done is_done (p ∷ ps) =
      elim (open_or_done is_done ps) [
        | inl o ↦ inl (o.0, inr o.1, o.2, o.3)
        | inr all ↦ elim (true_or_false (is_done p)) [
          | inl t ↦ inr (done_with is_done p ps (λ w. t) all)
          | inr f ↦ elim (no_width (width_of p)) [
            | inl z ↦ inr (done_with is_done p ps (λ w. absurd (omega arith)) all)
            | inr w ↦ inl (p, inl refl, f, w)
          ]
        ]
      ]

  -- one of the open processes waits for no other
  ready : (is_done : Process → Bool) (p : Process) → Free d.combs p → Member d.combs p → is_done p ≡ false → 1 ≤ width_of p → (q : Process) × Member d.combs q × (is_done q ≡ false) × (1 ≤ width_of q) × (next_done is_done q ≡ true)
  ready is_done p (free h) m e w =
      elim (true_or_false (waits is_done p)) [
        | inl t ↦ (let r = any-member (λ x. follows p x && not (is_done x)) d.combs t in
            let both = and_parts (follows p r.0) (not (is_done r.0)) r.2 in
            ready is_done r.0 (h r.0 r.1 both.0) r.1 (not-true (is_done r.0) both.1) (follows-writes p r.0 both.0))
        | inr n ↦ (p, m, e, w, not_from_false (waits is_done p) n)
      ]

  abbrev open_bits : (Process → Bool) → ℕ
  open_bits is_done = open_weight width_of is_done d.combs

  -- one more round: fewer bits are open
  fewer_open : (is_done : Process → Bool) (v : Valuation) → Stands is_done v → Open is_done d.combs → open_bits (next_done is_done) < open_bits is_done
  fewer_open is_done v st o =
      let r = ready is_done o.0 (sound.all_free o.0 o.1) o.1 o.2 o.3 in
      open_weight-falls width_of is_done (next_done is_done) d.combs (stays_done is_done v st) r.0 r.1 r.2 r.4 r.3

  at_rest_then : (is_done : Process → Bool) (v : Valuation) → Stands is_done v → AllDone is_done d.combs → Settled d s base v
  at_rest_then is_done v st all = λ i q. at q i
    where
      at : (q : Place) → v q ≡ round d s base v q
      at q =
          elim (writer of_process d.combs q) [
            | inl w ↦ sym (st.kept w.0 w.1 (all w.0 w.1 (some_bit w.0.writes q w.2)) q w.2)
            | inr n ↦ st.outside q n ∙ sym (at_rest d sound.well_written s v base q n)
          ]

  come_to_rest : (n : ℕ) (is_done : Process → Bool) (v : Valuation) → Stands is_done v → open_bits is_done ≤ n → (k : ℕ) × (k ≤ n) × Settled d s base (after_rounds d s base k v)
  come_to_rest zero is_done v st le =
      elim (open_or_done is_done d.combs) [
        | inl o ↦ absurd (omega (arith, fewer_open is_done v st o, le))
        | inr all ↦ (0, omega arith, at_rest_then is_done v st all)
      ]
  come_to_rest (suc n) is_done v st le =
      elim (open_or_done is_done d.combs) [
        | inl o ↦ (let r = come_to_rest n (next_done is_done) (round d s base v) (next_stands is_done v st) (omega (arith, fewer_open is_done v st o, le)) in
            (suc r.0, omega (arith, r.1), r.2))
        | inr all ↦ (0, omega arith, at_rest_then is_done v st all)
      ]

  none_done : (ps : List Process) → open_weight width_of (λ p. false) ps ≡ written_bits ps
  none_done [] = refl
  none_done (p ∷ ps) = ap (λ n. width_of p + n) (none_done ps)

  at_first : Stands (λ p. false) base
  at_first = record {
    closed = λ p m e q mq f. clash false e refl;
    kept = λ p m e q h. clash false e refl;
    outside = λ q n. refl;
  }

  -- the rounds from the base come to rest, at a settled valuation
  pub rounds_end : (k : ℕ) × (k ≤ written_bits d.combs) × Settled d s base (after_rounds d s base k base)
  rounds_end = come_to_rest (written_bits d.combs) (λ p. false) base at_first (omega (arith, none_done d.combs))

  pub reaches : (v : Valuation) → Settled d s base v → Reaches d s base v
  reaches v settled =
      let r = rounds_end in record {
        rounds = r.0;
        within = omega (arith, r.1);
        reached = settled_once d sound s base (after_rounds d s base r.0 base) v r.2 settled;
        stays = sym settled;
      }
