-- Stores of which some signals are made anew.
use Rattle.std.proofs.Common.{◌≡◌, ℕ, ◌+◌, ◌<◌, ◌≤◌, ◌==◌, ◌||◌, Bool, true, false, List, [], ◌∷◌, length, take, drop, Some, slice_get, slice_index_or, slice_set, refl, sym, ap, ◌∙◌, subst, inl, inr}
use Rattle.std.specs.List.{cons_option}
use Rattle.std.proofs.Math.Bool.{or-false}
use Rattle.std.proofs.Math.Seq.{map-set_same}
use Rattle.std.proofs.lemmas.Bool.{cases_Bool, eqb-true, eqb-false, false≢true, or_parts}
use Rattle.std.proofs.lemmas.Grind.{get_or-set_at}
use Rattle.std.proofs.lemmas.List.{get_or-set_other, drop_all, take_all}
use Rattle.std.proofs.lemmas.List.Folds.{list_any_more}
use Rattle.b4_core.specs.declared.bit.Bit4.{Bit4}
use Rattle.row_machine.specs.Valuation.{put, put_each}
use Rattle.row_machine.specs.Machine.{Process, Machine, Started, told}
use Rattle.round_runner.specs.Stores.{holding, widths, vector_of}
use Rattle.round_runner.specs.Parts.{Marks, Runs}
use Rattle.round_runner.specs.Plans.{is_in, picked, Taken, Picked}
use Rattle.round_runner.proofs.Elements.{element, rest_at, mapped_at}
use Rattle.round_runner.proofs.Compared.{width_at}
use Rattle.round_runner.proofs.OneRound.{told_started, untold}

abbrev Store : Type 0
Store = List (List Bit4)

pub is_in_more : (ns : List ℕ) (i k n : ℕ) → i < length ns → n ≡ slice_index_or ns i 0 → is_in (take (i + 1) ns) k ≡ (is_in (take i ns) k || (n == k))
is_in_more ns i k n h e = list_any_more (λ m. m == k) ns i 0 h ∙ ap (λ m. is_in (take i ns) k || (m == k)) (sym e)

pub taken_at_start : (ns : List ℕ) (from store : Store) → Taken (take 0 ns) from store store
taken_at_start ns from store = record { taken = λ k e. absurd (false≢true e); kept = λ k e. refl; shape = refl }

pub taken_more : (ns : List ℕ) (from before mid : Store) (v : List Bit4) (i n : ℕ) → i < length ns → n ≡ slice_index_or ns i 0 → n < length mid → widths from ≡ widths before → v ≡ vector_of from n
    → Taken (take i ns) from before mid → Taken (take (i + 1) ns) from before (slice_set mid n v)
taken_more ns from before mid v i n h is_n there shape is_v taken = record {
  taken = λ k e. elim (cases_Bool (n == k)) [
    | inl same ↦ here k same ∙ ap (vector_of from) (eqb-true n k same)
    | inr other ↦ elsewhere k other ∙ taken.taken k (sym (or-false (is_in (take i ns) k)) ∙ ap (λ b. is_in (take i ns) k || b) (sym other) ∙ sym (is_in_more ns i k n h is_n) ∙ e)
  ];
  kept = λ k e.
      let parts = or_parts (is_in (take i ns) k) (n == k) (sym (is_in_more ns i k n h is_n) ∙ e) in
      elsewhere k parts.1 ∙ taken.kept k parts.0;
  shape =
      map-set_same (λ (u : List Bit4). length u) mid n v []
      (ap length is_v ∙ sym (width_at from n) ∙ ap (λ ws. slice_index_or ws n 0) (shape ∙ sym taken.shape) ∙ width_at mid n)
      ∙ taken.shape;
}
  where
    here : (k : ℕ) → (n == k) ≡ true → vector_of (slice_set mid n v) k ≡ vector_of from n
    here k same = get_or-set_at mid n k v [] (sym (eqb-true n k same)) there ∙ is_v

    elsewhere : (k : ℕ) → (n == k) ≡ false → vector_of (slice_set mid n v) k ≡ vector_of mid k
    elsewhere k other = get_or-set_other mid n k v [] (λ e. eqb-false n k other (sym e))

pub taken_all : (ns : List ℕ) (from before after : Store) (i : ℕ) → length ns ≤ i → Taken (take i ns) from before after → Taken ns from before after
taken_all ns from before after i h taken = subst (λ ms. Taken ms from before after) (take_all i ns h) taken

-- the processes from the i-th number on are still to be put
pub record Picking (d : Machine) (flags : List Bool) (is : List ℕ) (held before now : Store) (i : ℕ) : Type 0 where
  pub rest : (s : Started) → Marks d.combs s flags
      → put_each (told s (holding held)) (picked d.combs (drop i is)) (holding now) ≡ put_each (told s (holding held)) (picked d.combs is) (holding before)
  pub shape : widths now ≡ widths before

pub picking_at_start : (d : Machine) (flags : List Bool) (is : List ℕ) (held store : Store) → Picking d flags is held store store 0
picking_at_start d flags is held store = record { rest = λ s m. refl; shape = refl }

picked_at : (ps : List Process) (is : List ℕ) (i n : ℕ) (p : Process) → slice_get is i ≡ Some n → slice_get ps n ≡ Some p → picked ps (drop i is) ≡ p ∷ picked ps (drop (i + 1) is)
picked_at ps is i n p at is_p = ap (picked ps) (rest_at is i n at) ∙ ap (λ o. cons_option o (picked ps (drop (i + 1) is))) is_p

pub picking_told : (d : Machine) (flags : List Bool) (is : List ℕ) (held before now next : Store) (i n : ℕ) (b : Bool) → slice_get is i ≡ Some n → n < length d.combs
    → slice_index_or flags n b ≡ true → Runs d.combs n held now next → Picking d flags is held before now i → Picking d flags is held before next (i + 1)
picking_told d flags is held before now next i n b at there flag runs picking =
    let p = element d.combs n there in
    let change = runs.done p.0 p.1 in record {
      rest = λ s m.
          let on : s p.0 ≡ true = sym (mapped_at s d.combs flags n p.0 b m.all p.1) ∙ flag in
          ap (put_each (told s (holding held)) (picked d.combs (drop (i + 1) is))) (change.values ∙ ap (λ c. put c (holding now)) (sym (told_started s (holding held) p.0 on)))
          ∙ ap (λ ps. put_each (told s (holding held)) ps (holding now)) (sym (picked_at d.combs is i n p.0 at p.1))
          ∙ picking.rest s m;
      shape = change.shape ∙ picking.shape;
    }

pub picking_untold : (d : Machine) (flags : List Bool) (is : List ℕ) (held before now : Store) (i n : ℕ) (b : Bool) → slice_get is i ≡ Some n → n < length d.combs
    → slice_index_or flags n b ≡ false → Picking d flags is held before now i → Picking d flags is held before now (i + 1)
picking_untold d flags is held before now i n b at there flag picking =
    let p = element d.combs n there in record {
      rest = λ s m.
          let off : s p.0 ≡ false = sym (mapped_at s d.combs flags n p.0 b m.all p.1) ∙ flag in
          ap (put_each (told s (holding held)) (picked d.combs (drop (i + 1) is))) (sym (untold s (holding held) (holding now) p.0 off))
          ∙ ap (λ ps. put_each (told s (holding held)) ps (holding now)) (sym (picked_at d.combs is i n p.0 at p.1))
          ∙ picking.rest s m;
      shape = picking.shape;
    }

pub all_picked : (d : Machine) (flags : List Bool) (is : List ℕ) (held before now : Store) (i : ℕ) → length is ≤ i → Picking d flags is held before now i → Picked d flags is held before now
all_picked d flags is held before now i h picking = record {
  values = λ s m. ap (λ js. put_each (told s (holding held)) (picked d.combs js) (holding now)) (sym (drop_all i is h)) ∙ picking.rest s m;
  shape = picking.shape;
}
