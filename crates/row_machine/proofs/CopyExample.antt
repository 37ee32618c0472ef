-- A two-state input that an `always @*` waits for, and its target, where the process reads a copy of the input.
-- The source is `module t(input bit a, output logic y); always @* y = ~a; endmodule`.
use Rattle.std.proofs.Common.{◌≡◌, Bool, true, false, if◌then◌else◌, List, [], ◌∷◌, Option, Some, None, refl, sym, ap, ◌∙◌, subst, inl, inr}
use Rattle.b4_core.specs.declared.bit.Bit4.TheVariants.{Zero, X}
use Rattle.row_machine.specs.Valuation.{Place, Valuation, Member, has, each_bit, is_place, NoneWrites}
use Rattle.row_machine.specs.Machine.{Process, Machine, assignment}
use Rattle.row_machine.specs.Order.{Honest, WellWritten, Sound, follows}
use Rattle.row_machine.specs.Agreement.{Map, is_known, Typed, KeepsTypes, TypedMachine, SameWrites, Twin, Copy, Simulates}
use Rattle.row_machine.specs.Dependence.{ComesFrom, stands_behind, FollowsReads, FollowsSources, AddsNoDependence}
use Rattle.row_machine.specs.Translation.{Translates}
use Rattle.row_machine.proofs.Basics.{clash, is_place-true, has-member, member-has}
use Rattle.row_machine.proofs.Assignments.{assigned, not_assigned, same_bits, assignment_honest}
use Rattle.row_machine.proofs.Agreement.{none_some}
use Rattle.row_machine.proofs.Examples.{one_bit, inverse}
use Rattle.row_machine.proofs.Laws as Laws

abbrev input : Place
input = one_bit 0

abbrev output : Place
output = one_bit 1

abbrev copied : Place
copied = one_bit 2

-- y = the inverse of a bit, in a plain `always @*`
abbrev inverts : Place → Process
inverts a = record {
  from_zero = false;
  waits_for = a ∷ [];
  reads = a ∷ [];
  writes = output ∷ [];
  assigns = λ v. each_bit (output ∷ []) (λ q. inverse (v a));
}

abbrev zero_at : Place → Valuation
zero_at a q = if is_place a q then Zero else X

abbrev source : Machine
source = record {
  combs = inverts input ∷ [];
  edges = [];
  inputs = input ∷ [];
  initial = zero_at input;
  start = zero_at input;
}

abbrev copier : Process
copier = assignment (input ∷ []) (copied ∷ []) (λ v q. v input)

abbrev target : Machine
target = record {
  combs = copier ∷ inverts copied ∷ [];
  edges = [];
  inputs = input ∷ [];
  initial = zero_at copied;
  start = zero_at input;
}

abbrev origin_of : Bool → Place → Option Place
origin_of true q = None
origin_of false q = Some q

abbrev through : Map
through = record { origin = λ q. origin_of (is_place copied q) q; extra = λ v q. v input; two_state = is_place input }

some_same : (p q : Place) → Some p ≡ Some q → p ≡ q
some_same p q e = cc

image : (b : Bool) (q q' : Place) → origin_of b q' ≡ Some q → (b ≡ false) × (q' ≡ q)
image true q q' e = none_some {x = q} None refl e
image false q q' e = (refl, some_same q' q e)

no_image : (b : Bool) (q' : Place) → origin_of b q' ≡ None → b ≡ true
no_image true q' e = refl
no_image false q' e = none_some (Some q') e refl

same_place : (q q' : Place) → through.origin q' ≡ Some q → q' ≡ q
same_place q q' o = (image (is_place copied q') q q' o).1

is_copied : (q' : Place) → through.origin q' ≡ None → copied ≡ q'
is_copied q' o = is_place-true copied q' (no_image (is_place copied q') q' o)

-- bits that aren't the copy
images_of : (qs : List Place) → has qs copied ≡ false → SameWrites through qs qs
images_of qs apart = record { images = λ q q' o. ap (has qs) (same_place q q' o); no_more = λ q' o. subst (λ q. has qs q ≡ false) (is_copied q' o) apart }

not_output : has (output ∷ []) copied ≡ false
unfolding has
not_output = refl

not_input : has (input ∷ []) copied ≡ false
unfolding has
not_input = refl

only : (p q : Place) → has (p ∷ []) q ≡ true → q ≡ p
only p q h = elim (has-member (p ∷ []) q h) [ inl e ↦ e | inr m ↦ elim m [ ] ]

twin : Twin through source target (inverts input) (inverts copied)
unfolding has
twin = record {
  from_zero = refl;
  writes = images_of (output ∷ []) not_output;
  assigns = λ v typed q q' o w. ap (each_bit (output ∷ []) (λ p. inverse (v input))) (same_place q q' o);
  wakes = λ v typed. refl;
}

copy : Copy through copier
copy = record {
  from_zero = refl;
  writes = λ q' w. ap through.origin (only copied q' w);
  assigns = λ v typed q' w. assigned (copied ∷ []) (λ q. v input) q' w;
}

unwritten : (q' : Place) → through.origin q' ≡ None → NoneWrites (λ (p : Process). p.writes) target.combs q' → ⊥
unfolding has
unwritten q' o n = clash (has (copied ∷ []) q') (subst (λ q. has (copied ∷ []) q ≡ true) (is_copied q' o) refl) (n copier (inl refl))

simulates : Simulates through source target
simulates = record {
  inputs = images_of (input ∷ []) not_input;
  start = λ q q' o i. inl (ap (zero_at input) (same_place q q' o));
  unwritten = λ q' o n v typed. absurd (unwritten q' o n);
  twin = λ p m. elim m as (λ k. (t : Process) × Member target.combs t × Twin through source target p t) [
    | inl e ↦ (inverts copied, inr (inl refl), subst (λ x. Twin through source target x (inverts copied)) (sym e) twin)
    | inr k ↦ elim k [ ]
  ];
  source = λ t m. elim m [
    | inl e ↦ inr (subst (Copy through) (sym e) copy)
    | inr k ↦ elim k [
      | inl e ↦ inl (inverts input, inl refl, subst (λ x. Twin through source target (inverts input) x) (sym e) twin)
      | inr l ↦ elim l [ ]
    ]
  ];
  edge_twin = λ p m. elim m [ ];
  edge_source = λ t m. elim m [ ];
}

-- both are well written
itself : (p : Place) → has (p ∷ []) p ≡ true
itself p = member-has (p ∷ []) p (inl refl)

inverts_honest : (a : Place) → Honest (inverts a)
inverts_honest a = record {
  by_reads = λ v u alike. same_bits (output ∷ []) (λ q. inverse (v a)) (λ q. inverse (u a)) (λ q h. ap inverse (alike a (itself a)));
  within = λ v q n. not_assigned (output ∷ []) (λ p. inverse (v a)) q n;
}

not_itself : follows (inverts input) (inverts input) ≡ false
unfolding has
not_itself = refl

none : (p q : Process) → Member source.combs p → Member source.combs q → follows p q ≡ false
none p q (inl e) (inl f) = (λ i. follows (e i) (f i)) ∙ not_itself
none p q (inr m) n = elim m [ ]
none p q (inl e) (inr n) = elim n [ ]

source_sound : Sound source
source_sound = record {
  well_written = record {
    honest = λ p m. elim m [ inl e ↦ subst Honest (sym e) (inverts_honest input) | inr k ↦ elim k [ ] ];
    one_writer = ((λ q h x m. elim m [ ]), tt);
    edges_within = λ p m. elim m [ ];
    edges_one_writer = tt;
  };
  all_free = Laws.independent_are_free source.combs none;
}

apart : (q : Place) → has (copied ∷ []) q ≡ true → NoneWrites (λ (p : Process). p.writes) (inverts copied ∷ []) q
apart q h x (inl e) = (λ i. has (e i).writes (only copied q h i)) ∙ not_output
apart q h x (inr m) = elim m [ ]

target_well_written : WellWritten target
target_well_written = record {
  honest = λ p m. elim m [
    | inl e ↦ subst Honest (sym e) (assignment_honest (input ∷ []) (copied ∷ []) (λ v q. v input) (λ v u alike q h. alike input (itself input)))
    | inr k ↦ elim k [ inl e ↦ subst Honest (sym e) (inverts_honest copied) | inr l ↦ elim l [ ] ]
  ];
  one_writer = (apart, ((λ q h x m. elim m [ ]), tt));
  edges_within = λ p m. elim m [ ];
  edges_one_writer = tt;
}

at_start : Typed through (zero_at input)
at_start q e = ap (λ b. is_known (if b then Zero else X)) e

output_only : (q : Place) → is_place input q ≡ true → has (output ∷ []) q ≡ false
unfolding has
output_only q e = ap (has (output ∷ [])) (sym (is_place-true input q e))

keeps : KeepsTypes through (inverts input).assigns
keeps v typed q b e f =
    none_some (each_bit (output ∷ []) (λ p. inverse (v input)) q) (not_assigned (output ∷ []) (λ p. inverse (v input)) q (output_only q f)) e

source_typed : TypedMachine through source
source_typed = record {
  start = at_start;
  combs = λ p m. elim m [ inl e ↦ subst (λ x. KeepsTypes through x.assigns) (sym e) keeps | inr k ↦ elim k [ ] ];
  edges = λ p m. elim m [ ];
}

-- the copy follows nobody, and the process follows the copy
copy_follows : (b : Process) → Member target.combs b → follows copier b ≡ false
unfolding has
copy_follows b (inl e) = ap (follows copier) e
copy_follows b (inr (inl e)) = ap (follows copier) e
copy_follows b (inr (inr m)) = elim m [ ]

not_again : follows (inverts copied) (inverts copied) ≡ false
unfolding has
not_again = refl

behind : ComesFrom through source target (input ∷ []) copier
behind = stands_behind (λ b mb f. clash (follows copier b) f (copy_follows b mb))

before : (b : Process) → Member target.combs b → follows (inverts copied) b ≡ true → ComesFrom through source target (input ∷ []) b
before b (inl e) f = subst (ComesFrom through source target (input ∷ [])) (sym e) behind
before b (inr (inl e)) f = clash (follows (inverts copied) b) f (ap (follows (inverts copied)) e ∙ not_again)
before b (inr (inr m)) f = elim m [ ]

adds : AddsNoDependence through source target
adds t (inl e) = inr (subst (FollowsSources through source target) (sym e) (record { is_copy = copy; sources = input ∷ []; comes = behind }))
adds t (inr (inl e)) = inl (inverts input, inl refl, subst (FollowsReads through source target (inverts input)) (sym e) (record { is_twin = twin; by_reads = before }))
adds t (inr (inr m)) = elim m [ ]

-- so the target translates the source
pub copy_translates : Translates through source target
copy_translates = Laws.refinement_translates through source target (record {
  source_sound = source_sound;
  source_typed = source_typed;
  target_well_written = target_well_written;
  simulates = simulates;
  adds_no_dependence = adds;
})
