-- Functions as they are called.
use Rattle.std.proofs.Common.{◌≡◌, ℕ, zero, suc, List, Option, Some, None, refl, ap, sym, ◌∙◌}
use Rattle.v_tree.specs.Names.{Name}
use Rattle.v_tree.specs.declared.items.VFunction.{VFunction}
use Rattle.v_meaning.specs.Scopes as S
use Rattle.v_meaning.specs.Functions.{find, callees_within, callee_or_absent}
use Rattle.v_meaning.specs.Modules.{functions as functions_in}
use Rattle.v_eval.specs.declared.scopes.Scope.{Scope}
use Rattle.v_eval.specs.Functions.{function_at}
use Rattle.v_eval.specs.Scopes.{signals_of, scope_of, callee_within, callee_at}

within : (d : ℕ) (names : List S.Named) (fs : List VFunction) (name : Name) → callees_within d names fs name ≡ callee_or_absent (callee_within d names fs) (find fs name)
unfolding callees_within
within zero names fs name = refl
within (suc d) names fs name = refl

-- the function that a name calls
pub called : (s : Scope) (name : Name) (o : Option ℕ) → function_at s.module.now.items.now o ≡ find (functions_in s.module.now.items.now) name → callee_at s o ≡ (scope_of s).callee name
called s name o is =
    let fs = functions_in s.module.now.items.now in
    ap (callee_or_absent (callee_within s.depth (signals_of s) fs)) is ∙ sym (within s.depth (signals_of s) fs name)

width-within : (d : ℕ) (names : List S.Named) (fs : List VFunction) (f : VFunction) → S.bits_of_range f.range ≡ (callee_within d names fs f).width
width-within zero names fs f = refl
width-within (suc d) names fs f = refl

pub width-there : (s : Scope) (i : ℕ) (f : VFunction) (n : ℕ) → Some f ≡ function_at s.module.now.items.now (Some i) → n ≡ S.bits_of_range f.range → n ≡ (callee_at s (Some i)).width
width-there s i f n is w =
    let fs = functions_in s.module.now.items.now in
    w ∙ width-within s.depth (signals_of s) fs f ∙ ap (λ o. (callee_or_absent (callee_within s.depth (signals_of s) fs) o).width) is

pub width-absent : (s : Scope) (i : ℕ) → None ≡ function_at s.module.now.items.now (Some i) → 0 ≡ (callee_at s (Some i)).width
width-absent s i is = ap (λ o. (callee_or_absent (callee_within s.depth (signals_of s) (functions_in s.module.now.items.now)) o).width) is

pub width-called : (s : Scope) (name : Name) (o : Option ℕ) (n : ℕ) → function_at s.module.now.items.now o ≡ find (functions_in s.module.now.items.now) name → n ≡ (callee_at s o).width → n ≡ ((scope_of s).callee name).width
width-called s name o n is w = w ∙ ap (λ (c : S.Callee). c.width) (called s name o is)

pub ruleset calls = (width-there, width-absent, width-called)
