-- The first member of a union that hasn't as many bits as the first.
use Rattle.std.proofs.Common.{◌≡◌, ◌==◌, ℕ, Bool, true, false, cond, List, [], ◌∷◌, Option, Some, None, refl, sym, ap, subst}
use Rattle.std.specs.Prelude.{not}
use Rattle.expr_type.specs.declared.halt.Halt.{Halt}
use Rattle.expr_type.specs.declared.halt.Halt.TheVariants as H
use Rattle.expr_type.specs.Answers.{Break, HaltsBy, reason}
use Rattle.expr_type.specs.Names.{Source, position}
use Rattle.expr_type.specs.Types.{Field, aggregate, first_width, same_widths}
use Rattle.expr_type.specs.Typings.{Checked, refused}
use Rattle.sv_tree.specs.declared.types.Aggregate.TheVariants as A
use Rattle.sv_tree.specs.declared.types.Packing.{Packing}
use Rattle.sv_types.specs.declared.types.SvType.{SvType}
use Rattle.sv_types.specs.Layouts.{width_of}
use Rattle.type_texts.specs.Uniting.{broken_at, first_other}

pub alike : (k : Source) (w : ℕ) (fs : List Field) (x : Checked SvType) → first_other w fs ≡ None → same_widths k w fs x ≡ x
alike k w [] x e = refl
alike k w (f ∷ fs) x e = by (λ (d : first_other w fs ≡ None). alike k w fs x d) (width_of f.of == w) e
  where
    by : (first_other w fs ≡ None → same_widths k w fs x ≡ x) → (b : Bool) → cond b (first_other w fs) (Some f.at) ≡ None → refused (not b) (position k f.at) 506 (same_widths k w fs x) ≡ x
    by rest true e = rest e
    by rest false e = cc

unlike : (k : Source) (w at : ℕ) (fs : List Field) (x : Checked SvType) → first_other w fs ≡ Some at
    → reason (same_widths k w fs x) ≡ Some (Some (record { at = at; rule = 506 }))
unlike k w at [] x e = cc
unlike k w at (f ∷ fs) x e = by (λ (d : first_other w fs ≡ Some at). unlike k w at fs x d) (width_of f.of == w) e
  where
    by : (first_other w fs ≡ Some at → reason (same_widths k w fs x) ≡ Some (Some (record { at = at; rule = 506 }))) → (b : Bool) → cond b (first_other w fs) (Some f.at) ≡ Some at
        → reason (refused (not b) (position k f.at) 506 (same_widths k w fs x)) ≡ Some (Some (record { at = at; rule = 506 }))
    by rest true e = rest e
    by rest false e = let h : f.at ≡ at = cc in ap (λ (n : ℕ). broken_at (Some n)) h

none-stops : (h : Halt) (r : Option (Option Break)) → HaltsBy h None → HaltsBy h r
none-stops H.Memory r s = tt
none-stops (H.Breaks at rule) r s = cc
none-stops H.Quiet r s = cc

by-first : (h : Halt) (k : Source) (w : ℕ) (fs : List Field) (x : Checked SvType) (o : Option ℕ) → first_other w fs ≡ o
    → HaltsBy h (broken_at o) → HaltsBy h (reason (same_widths k w fs x))
by-first h k w fs x None e s = none-stops h (reason (same_widths k w fs x)) s
by-first h k w fs x (Some at) e s = subst (λ (r : Option (Option Break)). HaltsBy h r) (sym (unlike k w at fs x e)) s

pub union-halts : (h : Halt) (k : Source) (at : ℕ) (p : Option Packing) (fs : List Field) → HaltsBy h (broken_at (first_other (first_width fs) fs))
    → HaltsBy h (reason (aggregate k (A.Union at) p fs))
union-halts h k at p fs s = by-first h k (first_width fs) fs _ (first_other (first_width fs) fs) refl s

pub ruleset uniting = (alike, union-halts)
