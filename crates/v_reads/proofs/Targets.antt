-- What the indices of targets read, form by form.
use Rattle.std.proofs.Common.{◌≡◌, ℕ, List, map, sym, ap, ◌∙◌, refl}
use Rattle.std.specs.Prelude.{flat_map}
use Rattle.v_tree.specs.Names.{Name}
use Rattle.v_tree.specs.declared.expressions.VSel.{VSel}
use Rattle.v_tree.specs.declared.statements.VLval.{VLval}
use Rattle.v_tree.specs.declared.statements.VLval.TheVariants as G
use Rattle.v_footprints.proofs.Levels as K
use Rattle.v_meaning.specs.Scopes.{Scope}
use Rattle.v_meaning.specs.Values.{sel_meaning, sel_reads}
use Rattle.v_meaning.specs.Selects.{SelMeaning}
use Rattle.v_meaning.specs.Statements.{Target, target, lval_step, name_target, joined_target}
use Rattle.v_reads.specs.Reads.{Adds}
use Rattle.v_reads.proofs.Sets.{adds-equal}

pub name-reads : (n : Name) (ss : List SelMeaning) (sc : Scope) → (name_target n ss).reads sc ≡ sel_reads ss sc
unfolding name_target
name-reads n ss sc = refl

pub joined-reads : (ts : List Target) (sc : Scope) → (joined_target ts).reads sc ≡ flat_map (λ (t : Target). t.reads sc) ts
unfolding joined_target
joined-reads ts sc = refl

pub name-added : (t : VLval) (n : Name) (ss : List VSel) (old new : List ℕ) (sc : Scope) → t ≡ G.Name n ss → Adds old new (sel_reads (map sel_meaning ss) sc) → Adds old new ((target t).reads sc)
name-added t n ss old new sc is h = adds-equal old new _ _ h (sym (ap (λ (x : Target). x.reads sc) (ap target is ∙ K.at-name lval_step n ss) ∙ name-reads n (map sel_meaning ss) sc))

pub concat-added : (t : VLval) (ts : List VLval) (old new : List ℕ) (sc : Scope) → t ≡ G.Concat ts → Adds old new (flat_map (λ (u : Target). u.reads sc) (map target ts)) → Adds old new ((target t).reads sc)
concat-added t ts old new sc is h = adds-equal old new _ _ h (sym (ap (λ (x : Target). x.reads sc) (ap target is ∙ K.at-concat lval_step ts) ∙ joined-reads (map target ts) sc))
