-- Of the rules that are broken at a state a step answers the one with the least number.
use Rattle.std.proofs.Common.{◌≡◌, ◌⊎◌, inl, inr, ℕ, zero, suc, ◌≤◌, ◌&&◌, not, Bool, true, false, cond, List, [], ◌∷◌, drop, length, slice_get, Option, Some, None, refl, sym, ap, ◌∙◌, subst, arith}
use Rattle.sv_source.specs.declared.token.Kind.{Kind}
use Rattle.sv_source.specs.declared.token.Kind.TheVariants as K
use Rattle.sv_source.specs.declared.token.Token.{Token}
use Rattle.sv_source.specs.declared.refusal.Refusal.{Refusal}
use Rattle.sv_macro.specs.Tokens.{is, is_name, is_string, name_of, said_by}
use Rattle.sv_macro.specs.Macros.{placed_count, placed}
use Rattle.sv_macro.specs.Brackets.{is_parenthesis}
use Rattle.sv_macro.specs.Lists.{Taken, taken, survey, fits, or_else}
use Rattle.sv_macro.specs.Definitions.{is_use, barred, barred_kind, first_barred, unless_barred, of_body, formals_of, with_formals, has_formals, with_list, behind_line, line_of, defining}
use Rattle.sv_macro.specs.Shapes.{behind_shapes}
use Rattle.sv_macro.specs.declared.lists.Survey.{Survey}
use Rattle.sv_macro.specs.declared.macros.Macro.{Macro}
use Rattle.sv_macro.specs.declared.coming.Coming.{Coming}
use Rattle.sv_macro.specs.declared.coming.Coming.TheVariants.{Raw, Kept, FileEnd, UseEnd}
use Rattle.sv_macro.specs.declared.definition.Formals.{Formals}
use Rattle.sv_macro.specs.declared.definition.Formals.TheVariants.{Listed, Departs, Ends}
use Rattle.sv_macro.specs.declared.definition.Defining.{Defining}
use Rattle.sv_macro.specs.declared.definition.Defining.TheVariants.{BreaksAt, IllFormed}
use Rattle.sv_macro.specs.declared.words.Condition.{Condition}
use Rattle.sv_macro.specs.declared.words.Condition.TheVariants.{Ifdef, Ifndef, Elsif, Else, Endif}
use Rattle.sv_macro.specs.declared.words.Word.{Word}
use Rattle.sv_macro.specs.declared.words.Word.TheVariants as W
use Rattle.sv_preproc.specs.declared.settings.Settings.{Settings}
use Rattle.sv_preproc.specs.declared.state.Conditional.{Conditional}
use Rattle.sv_preproc.specs.declared.state.OpenFile.{OpenFile}
use Rattle.sv_preproc.specs.States.{State, Step, goes, gives, takes, looks, done, breaks, broken, with_coming, next_raw, next_any, next_name, behind_next}
use Rattle.sv_preproc.specs.Uses as uses
use Rattle.sv_preproc.specs.Branches as branches
use Rattle.sv_preproc.specs.Expansion as spec
use Rattle.sv_preproc.specs.Breaks.{Rules, none, when, over, unpasted, body_rules, use_rules, if_sound, begun_rules, with_list_rules, list_from_rules, use_of_rules, used_rules, unnamed, unbalanced, branch_rules, branches_rules, definition_rules, include_rules, dropped_rules, obeyed_rules, directive_rules, skipped_word_rules, skipped_rules, token_rules, raw_rules, first_open, file_rules, rules_at, rules, refusal_at, paste_at, Breaks, directive, undefined, number, own, balance, limit, closed, paste, IsLeast, Answered, LeastIsAnswered}

-- the first of the rules by their numbers
abbrev at_least : ℕ → Option Token → Option Refusal → Option Refusal
at_least rule None rest = rest
at_least rule (Some t) rest = Some (refusal_at rule t)

abbrev pasted : Option Token → Option Refusal
pasted None = None
pasted (Some t) = Some (paste_at t)

abbrev first : Rules → Option Refusal
first r = at_least 201 r.e201 (at_least 202 r.e202 (at_least 203 r.e203 (at_least 204 r.e204 (at_least 205 r.e205 (at_least 207 r.e207 (at_least 208 r.e208 (pasted r.e209)))))))

-- what a step breaks
abbrev verdict : Step → Option Refusal
verdict (goes s) = None
verdict (gives t s) = None
verdict (takes t s) = None
verdict (looks q s) = None
verdict (done s) = None
verdict (breaks r names) = Some r

abbrev Agrees : Step → Rules → Type 0
Agrees st r = verdict st ≡ first r

by_test : (b : Bool) (x y : Step) (p q : Rules) → Agrees x p → Agrees y q → Agrees (elim b [ true ↦ x | false ↦ y ]) (elim b [ true ↦ p | false ↦ q ])
by_test true x y p q f g = f
by_test false x y p q f g = g

-- bodies
body_agrees : (s : State) (used : Token) (big : Bool) (body : Option (List Coming)) (n : ℕ) →
    Agrees (elim big as (λ _. Step) [ true ↦ broken s 207 used | false ↦ uses.with_body s used body n ]) (record none { e207 = when big used; e209 = unpasted used body })
body_agrees s used true body n = refl
body_agrees s used false None n = refl
body_agrees s used false (Some body) n = refl

macro_agrees : (s : State) (used : Token) (arguments : List (List Token)) (m : Option Macro) → Agrees (uses.with_macro s used arguments m) (body_rules s used arguments m)
macro_agrees s used arguments None = refl
macro_agrees s used arguments (Some m) = body_agrees s used (over s (placed_count arguments m.parts)) (placed used.place arguments m.parts) (placed_count arguments m.parts)

-- rules of a body alone
record Late (r : Rules) : Type 0 where
  e201 : r.e201 ≡ None
  e202 : r.e202 ≡ None
  e203 : r.e203 ≡ None
  e204 : r.e204 ≡ None
  e205 : r.e205 ≡ None
  e208 : r.e208 ≡ None

late_body : (s : State) (used : Token) (arguments : List (List Token)) (m : Macro) → Late (body_rules s used arguments (Some m))
late_body s used arguments m = record { e201 = refl; e202 = refl; e203 = refl; e204 = refl; e205 = refl; e208 = refl }

late_none : Late none
late_none = record { e201 = refl; e202 = refl; e203 = refl; e204 = refl; e205 = refl; e208 = refl }

late_first : (r : Rules) → Late r → first r ≡ at_least 207 r.e207 (pasted r.e209)
late_first r l =
    ap (λ o. at_least 201 o (at_least 202 r.e202 (at_least 203 r.e203 (at_least 204 r.e204 (at_least 205 r.e205 (at_least 207 r.e207 (at_least 208 r.e208 (pasted r.e209)))))))) l.e201 ∙
    ap (λ o. at_least 202 o (at_least 203 r.e203 (at_least 204 r.e204 (at_least 205 r.e205 (at_least 207 r.e207 (at_least 208 r.e208 (pasted r.e209))))))) l.e202 ∙
    ap (λ o. at_least 203 o (at_least 204 r.e204 (at_least 205 r.e205 (at_least 207 r.e207 (at_least 208 r.e208 (pasted r.e209)))))) l.e203 ∙
    ap (λ o. at_least 204 o (at_least 205 r.e205 (at_least 207 r.e207 (at_least 208 r.e208 (pasted r.e209))))) l.e204 ∙
    ap (λ o. at_least 205 o (at_least 207 r.e207 (at_least 208 r.e208 (pasted r.e209)))) l.e205 ∙
    ap (λ o. at_least 207 r.e207 (at_least 208 o (pasted r.e209))) l.e208

-- a use that is counted
counted_agrees : (s : State) (used : Token) (busy big : Bool) (next : Step) (r : Rules) → Late r → Agrees next r →
    verdict (elim busy as (λ _. Step) [ true ↦ broken s 204 used | false ↦ elim big as (λ _. Step) [ true ↦ broken s 207 used | false ↦ next ] ]) ≡
    at_least 204 (when busy used) (at_least 207 (or_else (when big used) r.e207) (pasted r.e209))
counted_agrees s used true big next r l a = refl
counted_agrees s used false true next r l a = refl
counted_agrees s used false false next r l a = a ∙ late_first r l

-- the same without other rules
alone_first : (used : Token) (busy big : Bool) (r : Rules) → Late r → first (record r { e204 = when busy used; e207 = or_else (when big used) r.e207 }) ≡ at_least 204 (when busy used) (at_least 207 (or_else (when big used) r.e207) (pasted r.e209))
alone_first used busy big r l =
    let n : Option Token = when busy used in
    let o : Option Token = or_else (when big used) r.e207 in
    ap (λ x. at_least 201 x (at_least 202 r.e202 (at_least 203 r.e203 (at_least 204 n (at_least 205 r.e205 (at_least 207 o (at_least 208 r.e208 (pasted r.e209)))))))) l.e201 ∙
    ap (λ x. at_least 202 x (at_least 203 r.e203 (at_least 204 n (at_least 205 r.e205 (at_least 207 o (at_least 208 r.e208 (pasted r.e209))))))) l.e202 ∙
    ap (λ x. at_least 203 x (at_least 204 n (at_least 205 r.e205 (at_least 207 o (at_least 208 r.e208 (pasted r.e209)))))) l.e203 ∙
    ap (λ x. at_least 204 n (at_least 205 x (at_least 207 o (at_least 208 r.e208 (pasted r.e209))))) l.e205 ∙
    ap (λ x. at_least 204 n (at_least 207 o (at_least 208 x (pasted r.e209)))) l.e208

without_agrees : (s : State) (used : Token) (busy : Bool) (m : Macro) → s.macros (name_of used) ≡ Some m → Agrees (uses.without_list s used busy) (use_rules s used busy (body_rules (uses.once_more s) used [] (Some m)))
without_agrees s used busy m e =
    ap (λ (o : Option Macro). verdict (uses.counted s used busy (uses.with_macro (uses.once_more s) used [] o))) e ∙
    counted_agrees s used busy (over s 1) (uses.with_macro (uses.once_more s) used [] (Some m)) (body_rules (uses.once_more s) used [] (Some m)) (late_body (uses.once_more s) used [] m) (macro_agrees (uses.once_more s) used [] (Some m)) ∙
    sym (alone_first used busy (over s 1) (body_rules (uses.once_more s) used [] (Some m)) (late_body (uses.once_more s) used [] m))

-- a list
begun_agrees : (s : State) (used : Token) (m : Macro) (cut : Option Token) (is_closed : Bool) (next : Step) (r : Rules) → Late r → Agrees next r →
    verdict (elim cut as (λ _. Step) [ Some t ↦ broken s 208 t | None ↦ elim is_closed as (λ _. Step) [ true ↦ next | false ↦ broken s 208 used ] ]) ≡
    at_least 207 (if_sound cut is_closed r).e207 (at_least 208 (or_else cut (when (not is_closed) used)) (pasted (if_sound cut is_closed r).e209))
begun_agrees s used m (Some t) is_closed next r l a = refl
begun_agrees s used m None true next r l a = a ∙ late_first r l
begun_agrees s used m None false next r l a = refl

listed_agrees : (s : State) (used : Token) (barred : Option Token) (wrong busy big : Bool) (next : Step) (rest : Option Refusal) (e207 : Option Token) (e208 : Option Token) (e209 : Option Token) →
    verdict next ≡ at_least 207 e207 (at_least 208 e208 (pasted e209)) →
    verdict (elim barred as (λ _. Step) [
      | Some t ↦ broken s 201 t
      | None ↦ elim wrong as (λ _. Step) [
        | true ↦ broken s 203 used
        | false ↦ elim busy as (λ _. Step) [ true ↦ broken s 204 used | false ↦ elim big as (λ _. Step) [ true ↦ broken s 207 used | false ↦ next ] ]
      ]
    ]) ≡ at_least 201 barred (at_least 203 (when wrong used) (at_least 204 (when busy used) (at_least 207 (or_else (when big used) e207) (at_least 208 e208 (pasted e209)))))
listed_agrees s used (Some t) wrong busy big next rest a b c e = refl
listed_agrees s used None true busy big next rest a b c e = refl
listed_agrees s used None false true big next rest a b c e = refl
listed_agrees s used None false false true next rest a b c e = refl
listed_agrees s used None false false false next rest a b c e = e

-- the rules of a body that is placed behind the list, and what comes of it
begins_agree : (s : State) (used : Token) (arity : ℕ) (k : Taken) (m : Macro) → s.macros (name_of used) ≡ Some m →
    verdict (uses.if_closed s used (survey k) (uses.list_begins (uses.once_more s) used arity k.behind)) ≡
    at_least 207 (begun_rules (with_coming (uses.once_more s) k.behind) used arity (survey k) (Some m)).e207 (at_least 208 (or_else (survey k).cut (when (not (survey k).closed) used)) (pasted (begun_rules (with_coming (uses.once_more s) k.behind) used arity (survey k) (Some m)).e209))
begins_agree s used zero k m e =
    ap (λ (o : Option Macro). verdict (uses.if_closed s used (survey k) (uses.with_macro (with_coming (uses.once_more s) k.behind) used [] o))) e ∙
    begun_agrees s used m (survey k).cut (survey k).closed (uses.with_macro (with_coming (uses.once_more s) k.behind) used [] (Some m)) (body_rules (with_coming (uses.once_more s) k.behind) used [] (Some m))
    (late_body (with_coming (uses.once_more s) k.behind) used [] m) (macro_agrees (with_coming (uses.once_more s) k.behind) used [] (Some m))
begins_agree s used (suc n) k m e = takes_agree (survey k).cut (survey k).closed
  where
    takes_agree : (cut : Option Token) (is_closed : Bool) →
        verdict (elim cut as (λ _. Step) [ Some t ↦ broken s 208 t | None ↦ elim is_closed as (λ _. Step) [ true ↦ takes used (uses.once_more s) | false ↦ broken s 208 used ] ]) ≡
        at_least 207 None (at_least 208 (or_else cut (when (not is_closed) used)) (pasted None))
    takes_agree (Some t) is_closed = refl
    takes_agree None true = refl
    takes_agree None false = refl

-- what is known of the rules of a list
e202_none : (s : State) (used : Token) (arity : ℕ) (list : Survey) (m : Macro) → (begun_rules s used arity list (Some m)).e202 ≡ None
e202_none s used zero list m = by_sound list.cut list.closed
  where
    by_sound : (cut : Option Token) (is_closed : Bool) → (if_sound cut is_closed (body_rules s used [] (Some m))).e202 ≡ None
    by_sound (Some t) is_closed = refl
    by_sound None true = refl
    by_sound None false = refl
e202_none s used (suc n) list m = refl

e205_none : (s : State) (used : Token) (arity : ℕ) (list : Survey) (m : Macro) → (begun_rules s used arity list (Some m)).e205 ≡ None
e205_none s used zero list m = by_sound list.cut list.closed
  where
    by_sound : (cut : Option Token) (is_closed : Bool) → (if_sound cut is_closed (body_rules s used [] (Some m))).e205 ≡ None
    by_sound (Some t) is_closed = refl
    by_sound None true = refl
    by_sound None false = refl
e205_none s used (suc n) list m = refl

with_list_agrees : (s : State) (used : Token) (busy : Bool) (arity : ℕ) (k : Taken) (m : Macro) → s.macros (name_of used) ≡ Some m → Agrees (uses.with_list s used busy arity k) (with_list_rules s used busy (Some m) arity k)
with_list_agrees s used busy arity k m e =
    let list = survey k in
    let late = begun_rules (with_coming (uses.once_more s) k.behind) used arity list (Some m) in
    let wrong : Bool = list.closed && not (fits arity list) in
    listed_agrees s used list.barred wrong busy (over s 1) (uses.if_closed s used list (uses.list_begins (uses.once_more s) used arity k.behind)) None late.e207 (or_else list.cut (when (not list.closed) used)) late.e209 (begins_agree s used arity k m e) ∙
    sym (ap (λ (o : Option Token). at_least 201 list.barred (at_least 202 o (at_least 203 (when wrong used) (at_least 204 (when busy used) (at_least 205 late.e205 (at_least 207 (or_else (when (over s 1) used) late.e207) (at_least 208 (or_else list.cut (when (not list.closed) used)) (pasted late.e209)))))))) (e202_none (with_coming (uses.once_more s) k.behind) used arity list m) ∙
    ap (λ (o : Option Token). at_least 201 list.barred (at_least 203 (when wrong used) (at_least 204 (when busy used) (at_least 205 o (at_least 207 (or_else (when (over s 1) used) late.e207) (at_least 208 (or_else list.cut (when (not list.closed) used)) (pasted late.e209))))))) (e205_none (with_coming (uses.once_more s) k.behind) used arity list m))

from_agrees : (s : State) (used : Token) (busy : Bool) (arity : ℕ) (next : Option Token) (m : Macro) → s.macros (name_of used) ≡ Some m → Agrees (uses.list_from s used busy arity next) (list_from_rules s used busy (Some m) arity next)
from_agrees s used busy arity None m e = refl
from_agrees s used busy arity (Some t) m e = by_test (is_parenthesis t) _ _ _ _ (with_list_agrees s used busy arity (taken [] s.coming) m e) refl

use_agrees : (s : State) (used : Token) (busy : Bool) (arity : Option ℕ) (m : Macro) → s.macros (name_of used) ≡ Some m → Agrees (uses.use_of s used busy arity) (use_of_rules s used busy (Some m) arity)
use_agrees s used busy None m e = without_agrees s used busy m e
use_agrees s used busy (Some arity) m e = from_agrees (behind_next s) used busy arity (next_any s) m e

used_agrees : (s : State) (used : Token) (m : Option Macro) → s.macros (name_of used) ≡ m → Agrees (uses.used_macro s used m) (used_rules s used m)
used_agrees s used None e = refl
used_agrees s used (Some m) e = use_agrees s used m.busy m.arity m e

-- conditionals
elsif_agrees : (s : State) (file : OpenFile) (files : List OpenFile) (cs : List Conditional) (t : Token) (name : List ℕ) → Agrees (branches.elsif_in s file files cs t name) (unbalanced t cs true)
elsif_agrees s file files [] t name = refl
elsif_agrees s file files (c ∷ cs) t name = by_last c.last
  where
    by_last : (last : Bool) → Agrees (elim last as (λ _. Step) [ true ↦ broken s 205 t | false ↦ branches.branch_begins s file files c cs (branches.branch_of_elsif s c.branch name) false ]) (record none { e205 = when last t })
    by_last true = refl
    by_last false = refl

elsif_named_agrees : (s : State) (file : OpenFile) (files : List OpenFile) (t : Token) (name : Option (List ℕ)) → Agrees (branches.elsif_named s file files t name) (unnamed t name (unbalanced t file.conditionals true))
elsif_named_agrees s file files t None = refl
elsif_named_agrees s file files t (Some name) = elsif_agrees s file files file.conditionals t name

else_agrees : (s : State) (file : OpenFile) (files : List OpenFile) (cs : List Conditional) (t : Token) → Agrees (branches.else_in s file files cs t) (unbalanced t cs true)
else_agrees s file files [] t = refl
else_agrees s file files (c ∷ cs) t = by_last c.last
  where
    by_last : (last : Bool) → Agrees (elim last as (λ _. Step) [ true ↦ broken s 205 t | false ↦ branches.branch_begins s file files c cs (branches.branch_of_else c.branch) true ]) (record none { e205 = when last t })
    by_last true = refl
    by_last false = refl

endif_agrees : (s : State) (file : OpenFile) (files : List OpenFile) (cs : List Conditional) (t : Token) → Agrees (branches.endif_in s file files cs t) (unbalanced t cs false)
endif_agrees s file files [] t = refl
endif_agrees s file files (c ∷ cs) t = refl

if_agrees : (s : State) (file : OpenFile) (files : List OpenFile) (t : Token) (wanted : Bool) (name : Option (List ℕ)) → Agrees (branches.if_named s file files t wanted name) (unnamed t name none)
if_agrees s file files t wanted None = refl
if_agrees s file files t wanted (Some name) = refl

branching_agrees : (s : State) (file : OpenFile) (files : List OpenFile) (t : Token) (word : Condition) → Agrees (branches.branching s file files t word) (branch_rules s file t word)
branching_agrees s file files t Ifdef = if_agrees (behind_next s) file files t true (next_name s)
branching_agrees s file files t Ifndef = if_agrees (behind_next s) file files t false (next_name s)
branching_agrees s file files t Elsif = elsif_named_agrees (behind_next s) file files t (next_name s)
branching_agrees s file files t Else = else_agrees s file files file.conditionals t
branching_agrees s file files t Endif = endif_agrees s file files file.conditionals t

branches_agree : (s : State) (files : List OpenFile) (t : Token) (word : Condition) → Agrees (branches.branching_in s files t word) (branches_rules s files t word)
branches_agree s [] t word = refl
branches_agree s (file ∷ files) t word = branching_agrees s file files t word

-- definitions
abbrev Fits : State → Token → Defining → Type 0
Fits s t d = Agrees (spec.definition s t d) (definition_rules t d)

barred_fits : (s : State) (t : Token) (u : Token) (rule : Option ℕ) → rule ≡ barred u → (rest : Option Defining) → ((d : Defining) → rest ≡ Some d → Fits s t d) →
    (d : Defining) → (elim rule as (λ _. Option Defining) [ None ↦ rest | Some n ↦ Some (BreaksAt n u) ]) ≡ Some d → Fits s t d
barred_fits s t u None e rest f d g = f d g
barred_fits s t u (Some n) e rest f d g =
    let same : BreaksAt n u ≡ d = cc in
    subst (Fits s t) same (by_kind u.kind n e)
  where
    by_use : (b : Bool) (n : ℕ) → Some n ≡ cond {A = Option ℕ} b None (Some 201) → Fits s t (BreaksAt n u)
    by_use true n e = absurd (let no : Some n ≡ None = e in cc)
    by_use false n e = (let is : n ≡ 201 = cc in subst (λ (x : ℕ). Fits s t (BreaksAt x u)) (sym is) refl)

    by_kind : (kind : Kind) (n : ℕ) → Some n ≡ barred_kind kind u → Fits s t (BreaksAt n u)
    by_kind K.Cut n e = (let is : n ≡ 208 = cc in subst (λ (x : ℕ). Fits s t (BreaksAt x u)) (sym is) refl)
    by_kind K.Directive n e = by_use (is_use (said_by u)) n e
    by_kind K.Name n e = absurd (let no : Some n ≡ None = e in cc)
    by_kind K.Reserved n e = absurd (let no : Some n ≡ None = e in cc)
    by_kind K.Decimal n e = absurd (let no : Some n ≡ None = e in cc)
    by_kind K.Based n e = absurd (let no : Some n ≡ None = e in cc)
    by_kind K.Fill n e = absurd (let no : Some n ≡ None = e in cc)
    by_kind K.Mark n e = absurd (let no : Some n ≡ None = e in cc)
    by_kind K.System n e = absurd (let no : Some n ≡ None = e in cc)
    by_kind K.Str n e = absurd (let no : Some n ≡ None = e in cc)
    by_kind K.Paste n e = absurd (let no : Some n ≡ None = e in cc)
    by_kind K.Quote n e = absurd (let no : Some n ≡ None = e in cc)
    by_kind K.Line n e = absurd (let no : Some n ≡ None = e in cc)
    by_kind K.Continued n e = absurd (let no : Some n ≡ None = e in cc)
    by_kind K.Bad n e = absurd (let no : Some n ≡ None = e in cc)
    by_kind K.End n e = absurd (let no : Some n ≡ None = e in cc)

first_fits : (s : State) (t : Token) (body : List Token) (d : Defining) → first_barred body ≡ Some d → Fits s t d
first_fits s t [] d e = absurd (let no : None ≡ Some d = e in cc)
first_fits s t (u ∷ us) d e = barred_fits s t u (barred u) refl (first_barred us) (first_fits s t us) d e

unless_fits : (s : State) (t : Token) (b : Option Defining) (d : Defining) → ((x : Defining) → b ≡ Some x → Fits s t x) → Fits s t d → Fits s t (unless_barred b d)
unless_fits s t None d f g = g
unless_fits s t (Some x) d f g = f x refl

body_fits : (s : State) (t : Token) (name : List ℕ) (arity : Option ℕ) (formals : List (List ℕ)) (body : List Token) → Fits s t (of_body name arity formals body)
body_fits s t name arity formals body = unless_fits s t (first_barred body) _ (first_fits s t body) refl

formals_fit : (s : State) (t : Token) (name : List ℕ) (behind : List Token) (formals : Formals) → Fits s t (with_formals name behind formals)
formals_fit s t name behind (Listed names taken) = body_fits s t name (Some (length names)) names (drop taken behind)
formals_fit s t name behind (Departs u) = refl
formals_fit s t name behind Ends = refl

by_choice : (s : State) (t : Token) (b : Bool) (x y : Defining) → Fits s t x → Fits s t y → Fits s t (cond {A = Defining} b x y)
by_choice s t true x y p q = p
by_choice s t false x y p q = q

list_fits : (s : State) (t : Token) (name : Token) (ts : List Token) → Fits s t (with_list name ts)
list_fits s t name [] = refl
list_fits s t name (u ∷ us) = by_choice s t (is u _) _ (BreaksAt 203 u) (formals_fit s t name.text us (formals_of us)) refl

defining_fits : (s : State) (t : Token) (line : List Token) → Fits s t (defining line)
defining_fits s t [] = refl
defining_fits s t (name ∷ ts) = by_choice s t (is_name name) _ IllFormed (by_choice s t (has_formals name ts) _ _ (list_fits s t name ts) (body_fits s t name.text None [] ts)) refl

-- directives
include_agrees : (set : Settings) (s : State) (t : Token) (next : Option Token) (files : List OpenFile) → s.files ≡ files → Agrees (spec.include_from set s t next) (include_rules t next files)
include_agrees set s t None files e = refl
include_agrees set s t (Some u) files e = by_string (is_string u) files e
  where
    by_string : (b : Bool) (files : List OpenFile) → s.files ≡ files → Agrees (elim b as (λ _. Step) [ true ↦ spec.include_in set s t u s.files | false ↦ broken s 201 t ]) (elim files as (λ _. Rules) [ [] ↦ record none { e201 = Some t } | f ∷ fs ↦ record none { e201 = when (not b) t } ])
    by_string true [] e = ap (λ (fs : List OpenFile). verdict (spec.include_in set s t u fs)) e
    by_string true (f ∷ fs) e = ap (λ (gs : List OpenFile). verdict (spec.include_in set s t u gs)) e
    by_string false [] e = refl
    by_string false (f ∷ fs) e = refl

dropped_agrees : (s : State) (t : Token) (rest : Option (List Coming)) → Agrees (spec.dropped s t rest) (dropped_rules t rest)
dropped_agrees s t None = refl
dropped_agrees s t (Some rest) = refl

undefine_agrees : (s : State) (t : Token) (name : Option (List ℕ)) → Agrees (spec.undefine_named s t name) (unnamed t name none)
undefine_agrees s t None = refl
undefine_agrees s t (Some name) = refl

obeyed_agrees : (set : Settings) (s : State) (t : Token) (word : Word) → Agrees (spec.obeyed set s t word) (obeyed_rules s t word)
obeyed_agrees set s t (W.Branch word) = branches_agree s s.files t word
obeyed_agrees set s t W.Define = defining_fits (with_coming s (behind_line s.coming)) t (line_of s.coming)
obeyed_agrees set s t W.Undef = undefine_agrees (behind_next s) t (next_name s)
obeyed_agrees set s t W.Include = include_agrees set (behind_next s) t (next_raw s) s.files refl
obeyed_agrees set s t W.Alone = refl
obeyed_agrees set s t W.NetType = dropped_agrees s t (behind_shapes spec.net_type_shapes s.coming)
obeyed_agrees set s t W.Timescale = dropped_agrees s t (behind_shapes spec.timescale_shapes s.coming)
obeyed_agrees set s t W.Unsupported = refl
obeyed_agrees set s t W.Use = used_agrees s t (s.macros (name_of t)) refl

in_file_agrees : (set : Settings) (s : State) (t : Token) (word : Word) →
    Agrees (elim (spec.in_file s) as (λ _. Step) [ true ↦ spec.obeyed set s t word | false ↦ broken s 201 t ]) (elim (spec.in_file s) as (λ _. Rules) [ true ↦ obeyed_rules s t word | false ↦ record none { e201 = Some t } ])
in_file_agrees set s t word = by_test (spec.in_file s) _ _ _ _ (obeyed_agrees set s t word) refl

directive_agrees : (set : Settings) (s : State) (t : Token) (word : Word) → Agrees (spec.directive set s t word) (directive_rules s t word)
directive_agrees set s t W.Use = used_agrees s t (s.macros (name_of t)) refl
directive_agrees set s t (W.Branch word) = in_file_agrees set s t (W.Branch word)
directive_agrees set s t W.Define = in_file_agrees set s t W.Define
directive_agrees set s t W.Undef = in_file_agrees set s t W.Undef
directive_agrees set s t W.Include = in_file_agrees set s t W.Include
directive_agrees set s t W.Alone = in_file_agrees set s t W.Alone
directive_agrees set s t W.NetType = in_file_agrees set s t W.NetType
directive_agrees set s t W.Timescale = in_file_agrees set s t W.Timescale
directive_agrees set s t W.Unsupported = in_file_agrees set s t W.Unsupported

-- tokens
skipped_word_agrees : (s : State) (t : Token) (word : Word) → Agrees (spec.skipped_word s t word) (skipped_word_rules s t word)
skipped_word_agrees s t (W.Branch word) = branches_agree s s.files t word
skipped_word_agrees s t _ = refl

skipped_agrees : (s : State) (t : Token) (kind : Kind) → Agrees (spec.skipped s t kind) (skipped_rules s t kind)
skipped_agrees s t K.Directive = skipped_word_agrees s t (said_by t)
skipped_agrees s t K.Cut = refl
skipped_agrees s t _ = refl

taken_agrees : (set : Settings) (s : State) (t : Token) (kind : Kind) → Agrees (spec.taken set s t kind) (token_rules s t kind)
taken_agrees set s t K.Directive = directive_agrees set s t (said_by t)
taken_agrees set s t K.Cut = refl
taken_agrees set s t K.Quote = refl
taken_agrees set s t K.Line = refl
taken_agrees set s t K.Continued = refl
taken_agrees set s t _ = refl

raw_agrees : (set : Settings) (s : State) (t : Token) → Agrees (spec.raw set s t) (raw_rules s t)
raw_agrees set s t = by_test (branches.skips s.files) _ _ _ _ (skipped_agrees s t t.kind) (taken_agrees set s t t.kind)

file_agrees : (s : State) (files : List OpenFile) → Agrees (spec.file_ends s files) (file_rules files)
file_agrees s [] = refl
file_agrees s (file ∷ files) = by_first file.conditionals
  where
    by_first : (cs : List Conditional) → Agrees (spec.file_ends_with s files cs) (record none { e205 = first_open cs })
    by_first [] = refl
    by_first (c ∷ cs) = refl

next_agrees : (s : State) (path : Option (List ℕ)) → Agrees (spec.next_file s path) none
next_agrees s None = refl
next_agrees s (Some path) = refl

at_agrees : (set : Settings) (s : State) (coming : List Coming) → Agrees (spec.step_at set s coming) (rules_at s coming)
at_agrees set s [] = next_agrees s (slice_get set.files s.next)
at_agrees set s (Raw t ∷ rest) = raw_agrees set (with_coming s rest) t
at_agrees set s (Kept t ∷ rest) = refl
at_agrees set s (FileEnd ∷ rest) = file_agrees (with_coming s rest) s.files
at_agrees set s (UseEnd name ∷ rest) = refl

step_agrees : (set : Settings) (s : State) → Agrees (spec.step set s) (rules s)
step_agrees set s = at_agrees set s s.coming

-- the first rule that is broken is the least
split_some : (n : ℕ) (o : Option Token) (rest : Option Refusal) (x : Refusal) → at_least n o rest ≡ Some x → ((t : Token) × (o ≡ Some t) × (x ≡ refusal_at n t)) ⊎ ((o ≡ None) × (rest ≡ Some x))
split_some n None rest x e = inr (refl, e)
split_some n (Some t) rest x e = inl (t, refl, cc)

split_none : (n : ℕ) (o : Option Token) (rest : Option Refusal) → at_least n o rest ≡ None → (o ≡ None) × (rest ≡ None)
split_none n None rest e = (refl, e)
split_none n (Some t) rest e = absurd (let no : Some (refusal_at n t) ≡ None = e in cc)

pasted_some : (o : Option Token) (x : Refusal) → pasted o ≡ Some x → (t : Token) × (o ≡ Some t) × (x ≡ paste_at t)
pasted_some None x e = absurd (let no : None ≡ Some x = e in cc)
pasted_some (Some t) x e = (t, refl, cc)

pasted_none : (o : Option Token) → pasted o ≡ None → o ≡ None
pasted_none None e = refl
pasted_none (Some t) e = absurd (let no : Some (paste_at t) ≡ None = e in cc)

none_some : (o : Option Token) (t : Token) → o ≡ None → o ≡ Some t → ⊥
none_some o t e f = (let no : None ≡ Some t = sym e ∙ f in cc)

one_token : (o : Option Token) (t u : Token) → o ≡ Some t → o ≡ Some u → u ≡ t
one_token o t u e f = (let both : Some u ≡ Some t = sym f ∙ e in cc)

module _ (s : State) where
  above_201 : (other : Refusal) → Breaks s other → 201 ≤ other.rule
  above_201 _ (directive t e) = omega arith
  above_201 _ (undefined t e) = omega arith
  above_201 _ (number t e) = omega arith
  above_201 _ (own t e) = omega arith
  above_201 _ (balance t e) = omega arith
  above_201 _ (limit t e) = omega arith
  above_201 _ (closed t e) = omega arith
  above_201 _ (paste t e) = omega arith

  above_202 : (rules s).e201 ≡ None → (other : Refusal) → Breaks s other → 202 ≤ other.rule
  above_202 n201 _ (directive t e) = absurd (none_some _ t n201 e)
  above_202 n201 _ (undefined t e) = omega arith
  above_202 n201 _ (number t e) = omega arith
  above_202 n201 _ (own t e) = omega arith
  above_202 n201 _ (balance t e) = omega arith
  above_202 n201 _ (limit t e) = omega arith
  above_202 n201 _ (closed t e) = omega arith
  above_202 n201 _ (paste t e) = omega arith

  above_203 : (rules s).e201 ≡ None → (rules s).e202 ≡ None → (other : Refusal) → Breaks s other → 203 ≤ other.rule
  above_203 n201 n202 _ (directive t e) = absurd (none_some _ t n201 e)
  above_203 n201 n202 _ (undefined t e) = absurd (none_some _ t n202 e)
  above_203 n201 n202 _ (number t e) = omega arith
  above_203 n201 n202 _ (own t e) = omega arith
  above_203 n201 n202 _ (balance t e) = omega arith
  above_203 n201 n202 _ (limit t e) = omega arith
  above_203 n201 n202 _ (closed t e) = omega arith
  above_203 n201 n202 _ (paste t e) = omega arith

  above_204 : (rules s).e201 ≡ None → (rules s).e202 ≡ None → (rules s).e203 ≡ None → (other : Refusal) → Breaks s other → 204 ≤ other.rule
  above_204 n201 n202 n203 _ (directive t e) = absurd (none_some _ t n201 e)
  above_204 n201 n202 n203 _ (undefined t e) = absurd (none_some _ t n202 e)
  above_204 n201 n202 n203 _ (number t e) = absurd (none_some _ t n203 e)
  above_204 n201 n202 n203 _ (own t e) = omega arith
  above_204 n201 n202 n203 _ (balance t e) = omega arith
  above_204 n201 n202 n203 _ (limit t e) = omega arith
  above_204 n201 n202 n203 _ (closed t e) = omega arith
  above_204 n201 n202 n203 _ (paste t e) = omega arith

  above_205 : (rules s).e201 ≡ None → (rules s).e202 ≡ None → (rules s).e203 ≡ None → (rules s).e204 ≡ None → (other : Refusal) → Breaks s other → 205 ≤ other.rule
  above_205 n201 n202 n203 n204 _ (directive t e) = absurd (none_some _ t n201 e)
  above_205 n201 n202 n203 n204 _ (undefined t e) = absurd (none_some _ t n202 e)
  above_205 n201 n202 n203 n204 _ (number t e) = absurd (none_some _ t n203 e)
  above_205 n201 n202 n203 n204 _ (own t e) = absurd (none_some _ t n204 e)
  above_205 n201 n202 n203 n204 _ (balance t e) = omega arith
  above_205 n201 n202 n203 n204 _ (limit t e) = omega arith
  above_205 n201 n202 n203 n204 _ (closed t e) = omega arith
  above_205 n201 n202 n203 n204 _ (paste t e) = omega arith

  above_207 : (rules s).e201 ≡ None → (rules s).e202 ≡ None → (rules s).e203 ≡ None → (rules s).e204 ≡ None → (rules s).e205 ≡ None → (other : Refusal) → Breaks s other → 207 ≤ other.rule
  above_207 n201 n202 n203 n204 n205 _ (directive t e) = absurd (none_some _ t n201 e)
  above_207 n201 n202 n203 n204 n205 _ (undefined t e) = absurd (none_some _ t n202 e)
  above_207 n201 n202 n203 n204 n205 _ (number t e) = absurd (none_some _ t n203 e)
  above_207 n201 n202 n203 n204 n205 _ (own t e) = absurd (none_some _ t n204 e)
  above_207 n201 n202 n203 n204 n205 _ (balance t e) = absurd (none_some _ t n205 e)
  above_207 n201 n202 n203 n204 n205 _ (limit t e) = omega arith
  above_207 n201 n202 n203 n204 n205 _ (closed t e) = omega arith
  above_207 n201 n202 n203 n204 n205 _ (paste t e) = omega arith

  above_208 : (rules s).e201 ≡ None → (rules s).e202 ≡ None → (rules s).e203 ≡ None → (rules s).e204 ≡ None → (rules s).e205 ≡ None → (rules s).e207 ≡ None → (other : Refusal) → Breaks s other → 208 ≤ other.rule
  above_208 n201 n202 n203 n204 n205 n207 _ (directive t e) = absurd (none_some _ t n201 e)
  above_208 n201 n202 n203 n204 n205 n207 _ (undefined t e) = absurd (none_some _ t n202 e)
  above_208 n201 n202 n203 n204 n205 n207 _ (number t e) = absurd (none_some _ t n203 e)
  above_208 n201 n202 n203 n204 n205 n207 _ (own t e) = absurd (none_some _ t n204 e)
  above_208 n201 n202 n203 n204 n205 n207 _ (balance t e) = absurd (none_some _ t n205 e)
  above_208 n201 n202 n203 n204 n205 n207 _ (limit t e) = absurd (none_some _ t n207 e)
  above_208 n201 n202 n203 n204 n205 n207 _ (closed t e) = omega arith
  above_208 n201 n202 n203 n204 n205 n207 _ (paste t e) = omega arith

  above_209 : (rules s).e201 ≡ None → (rules s).e202 ≡ None → (rules s).e203 ≡ None → (rules s).e204 ≡ None → (rules s).e205 ≡ None → (rules s).e207 ≡ None → (rules s).e208 ≡ None → (other : Refusal) → Breaks s other → 209 ≤ other.rule
  above_209 n201 n202 n203 n204 n205 n207 n208 _ (directive t e) = absurd (none_some _ t n201 e)
  above_209 n201 n202 n203 n204 n205 n207 n208 _ (undefined t e) = absurd (none_some _ t n202 e)
  above_209 n201 n202 n203 n204 n205 n207 n208 _ (number t e) = absurd (none_some _ t n203 e)
  above_209 n201 n202 n203 n204 n205 n207 n208 _ (own t e) = absurd (none_some _ t n204 e)
  above_209 n201 n202 n203 n204 n205 n207 n208 _ (balance t e) = absurd (none_some _ t n205 e)
  above_209 n201 n202 n203 n204 n205 n207 n208 _ (limit t e) = absurd (none_some _ t n207 e)
  above_209 n201 n202 n203 n204 n205 n207 n208 _ (closed t e) = absurd (none_some _ t n208 e)
  above_209 n201 n202 n203 n204 n205 n207 n208 _ (paste t e) = omega arith

  only_201 : (t : Token) → (rules s).e201 ≡ Some t → (other : Refusal) → Breaks s other → other.rule ≡ 201 → other ≡ refusal_at 201 t
  only_201 t e _ (directive u f) same = ap (λ (x : Token). refusal_at 201 x) (one_token _ t u e f)
  only_201 t e _ (undefined u f) same = absurd (let no : 202 ≡ 201 = same in omega (arith, no))
  only_201 t e _ (number u f) same = absurd (let no : 203 ≡ 201 = same in omega (arith, no))
  only_201 t e _ (own u f) same = absurd (let no : 204 ≡ 201 = same in omega (arith, no))
  only_201 t e _ (balance u f) same = absurd (let no : 205 ≡ 201 = same in omega (arith, no))
  only_201 t e _ (limit u f) same = absurd (let no : 207 ≡ 201 = same in omega (arith, no))
  only_201 t e _ (closed u f) same = absurd (let no : 208 ≡ 201 = same in omega (arith, no))
  only_201 t e _ (paste u f) same = absurd (let no : 209 ≡ 201 = same in omega (arith, no))

  only_202 : (t : Token) → (rules s).e202 ≡ Some t → (other : Refusal) → Breaks s other → other.rule ≡ 202 → other ≡ refusal_at 202 t
  only_202 t e _ (directive u f) same = absurd (let no : 201 ≡ 202 = same in omega (arith, no))
  only_202 t e _ (undefined u f) same = ap (λ (x : Token). refusal_at 202 x) (one_token _ t u e f)
  only_202 t e _ (number u f) same = absurd (let no : 203 ≡ 202 = same in omega (arith, no))
  only_202 t e _ (own u f) same = absurd (let no : 204 ≡ 202 = same in omega (arith, no))
  only_202 t e _ (balance u f) same = absurd (let no : 205 ≡ 202 = same in omega (arith, no))
  only_202 t e _ (limit u f) same = absurd (let no : 207 ≡ 202 = same in omega (arith, no))
  only_202 t e _ (closed u f) same = absurd (let no : 208 ≡ 202 = same in omega (arith, no))
  only_202 t e _ (paste u f) same = absurd (let no : 209 ≡ 202 = same in omega (arith, no))

  only_203 : (t : Token) → (rules s).e203 ≡ Some t → (other : Refusal) → Breaks s other → other.rule ≡ 203 → other ≡ refusal_at 203 t
  only_203 t e _ (directive u f) same = absurd (let no : 201 ≡ 203 = same in omega (arith, no))
  only_203 t e _ (undefined u f) same = absurd (let no : 202 ≡ 203 = same in omega (arith, no))
  only_203 t e _ (number u f) same = ap (λ (x : Token). refusal_at 203 x) (one_token _ t u e f)
  only_203 t e _ (own u f) same = absurd (let no : 204 ≡ 203 = same in omega (arith, no))
  only_203 t e _ (balance u f) same = absurd (let no : 205 ≡ 203 = same in omega (arith, no))
  only_203 t e _ (limit u f) same = absurd (let no : 207 ≡ 203 = same in omega (arith, no))
  only_203 t e _ (closed u f) same = absurd (let no : 208 ≡ 203 = same in omega (arith, no))
  only_203 t e _ (paste u f) same = absurd (let no : 209 ≡ 203 = same in omega (arith, no))

  only_204 : (t : Token) → (rules s).e204 ≡ Some t → (other : Refusal) → Breaks s other → other.rule ≡ 204 → other ≡ refusal_at 204 t
  only_204 t e _ (directive u f) same = absurd (let no : 201 ≡ 204 = same in omega (arith, no))
  only_204 t e _ (undefined u f) same = absurd (let no : 202 ≡ 204 = same in omega (arith, no))
  only_204 t e _ (number u f) same = absurd (let no : 203 ≡ 204 = same in omega (arith, no))
  only_204 t e _ (own u f) same = ap (λ (x : Token). refusal_at 204 x) (one_token _ t u e f)
  only_204 t e _ (balance u f) same = absurd (let no : 205 ≡ 204 = same in omega (arith, no))
  only_204 t e _ (limit u f) same = absurd (let no : 207 ≡ 204 = same in omega (arith, no))
  only_204 t e _ (closed u f) same = absurd (let no : 208 ≡ 204 = same in omega (arith, no))
  only_204 t e _ (paste u f) same = absurd (let no : 209 ≡ 204 = same in omega (arith, no))

  only_205 : (t : Token) → (rules s).e205 ≡ Some t → (other : Refusal) → Breaks s other → other.rule ≡ 205 → other ≡ refusal_at 205 t
  only_205 t e _ (directive u f) same = absurd (let no : 201 ≡ 205 = same in omega (arith, no))
  only_205 t e _ (undefined u f) same = absurd (let no : 202 ≡ 205 = same in omega (arith, no))
  only_205 t e _ (number u f) same = absurd (let no : 203 ≡ 205 = same in omega (arith, no))
  only_205 t e _ (own u f) same = absurd (let no : 204 ≡ 205 = same in omega (arith, no))
  only_205 t e _ (balance u f) same = ap (λ (x : Token). refusal_at 205 x) (one_token _ t u e f)
  only_205 t e _ (limit u f) same = absurd (let no : 207 ≡ 205 = same in omega (arith, no))
  only_205 t e _ (closed u f) same = absurd (let no : 208 ≡ 205 = same in omega (arith, no))
  only_205 t e _ (paste u f) same = absurd (let no : 209 ≡ 205 = same in omega (arith, no))

  only_207 : (t : Token) → (rules s).e207 ≡ Some t → (other : Refusal) → Breaks s other → other.rule ≡ 207 → other ≡ refusal_at 207 t
  only_207 t e _ (directive u f) same = absurd (let no : 201 ≡ 207 = same in omega (arith, no))
  only_207 t e _ (undefined u f) same = absurd (let no : 202 ≡ 207 = same in omega (arith, no))
  only_207 t e _ (number u f) same = absurd (let no : 203 ≡ 207 = same in omega (arith, no))
  only_207 t e _ (own u f) same = absurd (let no : 204 ≡ 207 = same in omega (arith, no))
  only_207 t e _ (balance u f) same = absurd (let no : 205 ≡ 207 = same in omega (arith, no))
  only_207 t e _ (limit u f) same = ap (λ (x : Token). refusal_at 207 x) (one_token _ t u e f)
  only_207 t e _ (closed u f) same = absurd (let no : 208 ≡ 207 = same in omega (arith, no))
  only_207 t e _ (paste u f) same = absurd (let no : 209 ≡ 207 = same in omega (arith, no))

  only_208 : (t : Token) → (rules s).e208 ≡ Some t → (other : Refusal) → Breaks s other → other.rule ≡ 208 → other ≡ refusal_at 208 t
  only_208 t e _ (directive u f) same = absurd (let no : 201 ≡ 208 = same in omega (arith, no))
  only_208 t e _ (undefined u f) same = absurd (let no : 202 ≡ 208 = same in omega (arith, no))
  only_208 t e _ (number u f) same = absurd (let no : 203 ≡ 208 = same in omega (arith, no))
  only_208 t e _ (own u f) same = absurd (let no : 204 ≡ 208 = same in omega (arith, no))
  only_208 t e _ (balance u f) same = absurd (let no : 205 ≡ 208 = same in omega (arith, no))
  only_208 t e _ (limit u f) same = absurd (let no : 207 ≡ 208 = same in omega (arith, no))
  only_208 t e _ (closed u f) same = ap (λ (x : Token). refusal_at 208 x) (one_token _ t u e f)
  only_208 t e _ (paste u f) same = absurd (let no : 209 ≡ 208 = same in omega (arith, no))

  only_209 : (t : Token) → (rules s).e209 ≡ Some t → (other : Refusal) → Breaks s other → other.rule ≡ 209 → other ≡ paste_at t
  only_209 t e _ (directive u f) same = absurd (let no : 201 ≡ 209 = same in omega (arith, no))
  only_209 t e _ (undefined u f) same = absurd (let no : 202 ≡ 209 = same in omega (arith, no))
  only_209 t e _ (number u f) same = absurd (let no : 203 ≡ 209 = same in omega (arith, no))
  only_209 t e _ (own u f) same = absurd (let no : 204 ≡ 209 = same in omega (arith, no))
  only_209 t e _ (balance u f) same = absurd (let no : 205 ≡ 209 = same in omega (arith, no))
  only_209 t e _ (limit u f) same = absurd (let no : 207 ≡ 209 = same in omega (arith, no))
  only_209 t e _ (closed u f) same = absurd (let no : 208 ≡ 209 = same in omega (arith, no))
  only_209 t e _ (paste u f) same = ap (λ (x : Token). paste_at x) (one_token _ t u e f)

  least_with : (n : ℕ) (t : Token) (r : Refusal) → r ≡ refusal_at n t → Breaks s (refusal_at n t) → ((other : Refusal) → Breaks s other → n ≤ other.rule) →
      ((other : Refusal) → Breaks s other → other.rule ≡ n → other ≡ refusal_at n t) → IsLeast s r
  least_with n t r e b a o = subst (IsLeast s) (sym e) (record { broken = b; least = a; only = o })

  from_209 : (rules s).e201 ≡ None → (rules s).e202 ≡ None → (rules s).e203 ≡ None → (rules s).e204 ≡ None → (rules s).e205 ≡ None → (rules s).e207 ≡ None → (rules s).e208 ≡ None → (r : Refusal) → pasted (rules s).e209 ≡ Some r → IsLeast s r
  from_209 n201 n202 n203 n204 n205 n207 n208 r e =
      let p = pasted_some (rules s).e209 r e in
      subst (IsLeast s) (sym p.2) (record { broken = paste p.0 p.1; least = above_209 n201 n202 n203 n204 n205 n207 n208; only = only_209 p.0 p.1 })

  from_208 : (rules s).e201 ≡ None → (rules s).e202 ≡ None → (rules s).e203 ≡ None → (rules s).e204 ≡ None → (rules s).e205 ≡ None → (rules s).e207 ≡ None → (r : Refusal) → at_least 208 (rules s).e208 (pasted (rules s).e209) ≡ Some r → IsLeast s r
  from_208 n201 n202 n203 n204 n205 n207 r e = by_split (split_some 208 (rules s).e208 (pasted (rules s).e209) r e)
    where
      by_split : ((t : Token) × ((rules s).e208 ≡ Some t) × (r ≡ refusal_at 208 t)) ⊎ (((rules s).e208 ≡ None) × (pasted (rules s).e209 ≡ Some r)) → IsLeast s r
      by_split (inl p) = least_with 208 p.0 r p.2 (closed p.0 p.1) (above_208 n201 n202 n203 n204 n205 n207) (only_208 p.0 p.1)
      by_split (inr q) = from_209 n201 n202 n203 n204 n205 n207 q.0 r q.1

  from_207 : (rules s).e201 ≡ None → (rules s).e202 ≡ None → (rules s).e203 ≡ None → (rules s).e204 ≡ None → (rules s).e205 ≡ None → (r : Refusal) → at_least 207 (rules s).e207 (at_least 208 (rules s).e208 (pasted (rules s).e209)) ≡ Some r → IsLeast s r
  from_207 n201 n202 n203 n204 n205 r e = by_split (split_some 207 (rules s).e207 (at_least 208 (rules s).e208 (pasted (rules s).e209)) r e)
    where
      by_split : ((t : Token) × ((rules s).e207 ≡ Some t) × (r ≡ refusal_at 207 t)) ⊎ (((rules s).e207 ≡ None) × (at_least 208 (rules s).e208 (pasted (rules s).e209) ≡ Some r)) → IsLeast s r
      by_split (inl p) = least_with 207 p.0 r p.2 (limit p.0 p.1) (above_207 n201 n202 n203 n204 n205) (only_207 p.0 p.1)
      by_split (inr q) = from_208 n201 n202 n203 n204 n205 q.0 r q.1

  from_205 : (rules s).e201 ≡ None → (rules s).e202 ≡ None → (rules s).e203 ≡ None → (rules s).e204 ≡ None → (r : Refusal) → at_least 205 (rules s).e205 (at_least 207 (rules s).e207 (at_least 208 (rules s).e208 (pasted (rules s).e209))) ≡ Some r → IsLeast s r
  from_205 n201 n202 n203 n204 r e = by_split (split_some 205 (rules s).e205 (at_least 207 (rules s).e207 (at_least 208 (rules s).e208 (pasted (rules s).e209))) r e)
    where
      by_split : ((t : Token) × ((rules s).e205 ≡ Some t) × (r ≡ refusal_at 205 t)) ⊎ (((rules s).e205 ≡ None) × (at_least 207 (rules s).e207 (at_least 208 (rules s).e208 (pasted (rules s).e209)) ≡ Some r)) → IsLeast s r
      by_split (inl p) = least_with 205 p.0 r p.2 (balance p.0 p.1) (above_205 n201 n202 n203 n204) (only_205 p.0 p.1)
      by_split (inr q) = from_207 n201 n202 n203 n204 q.0 r q.1

  from_204 : (rules s).e201 ≡ None → (rules s).e202 ≡ None → (rules s).e203 ≡ None → (r : Refusal) → at_least 204 (rules s).e204 (at_least 205 (rules s).e205 (at_least 207 (rules s).e207 (at_least 208 (rules s).e208 (pasted (rules s).e209)))) ≡ Some r → IsLeast s r
  from_204 n201 n202 n203 r e = by_split (split_some 204 (rules s).e204 (at_least 205 (rules s).e205 (at_least 207 (rules s).e207 (at_least 208 (rules s).e208 (pasted (rules s).e209)))) r e)
    where
      by_split : ((t : Token) × ((rules s).e204 ≡ Some t) × (r ≡ refusal_at 204 t)) ⊎ (((rules s).e204 ≡ None) × (at_least 205 (rules s).e205 (at_least 207 (rules s).e207 (at_least 208 (rules s).e208 (pasted (rules s).e209))) ≡ Some r)) → IsLeast s r
      by_split (inl p) = least_with 204 p.0 r p.2 (own p.0 p.1) (above_204 n201 n202 n203) (only_204 p.0 p.1)
      by_split (inr q) = from_205 n201 n202 n203 q.0 r q.1

  from_203 : (rules s).e201 ≡ None → (rules s).e202 ≡ None → (r : Refusal) → at_least 203 (rules s).e203 (at_least 204 (rules s).e204 (at_least 205 (rules s).e205 (at_least 207 (rules s).e207 (at_least 208 (rules s).e208 (pasted (rules s).e209))))) ≡ Some r → IsLeast s r
  from_203 n201 n202 r e = by_split (split_some 203 (rules s).e203 (at_least 204 (rules s).e204 (at_least 205 (rules s).e205 (at_least 207 (rules s).e207 (at_least 208 (rules s).e208 (pasted (rules s).e209))))) r e)
    where
      by_split : ((t : Token) × ((rules s).e203 ≡ Some t) × (r ≡ refusal_at 203 t)) ⊎ (((rules s).e203 ≡ None) × (at_least 204 (rules s).e204 (at_least 205 (rules s).e205 (at_least 207 (rules s).e207 (at_least 208 (rules s).e208 (pasted (rules s).e209)))) ≡ Some r)) → IsLeast s r
      by_split (inl p) = least_with 203 p.0 r p.2 (number p.0 p.1) (above_203 n201 n202) (only_203 p.0 p.1)
      by_split (inr q) = from_204 n201 n202 q.0 r q.1

  from_202 : (rules s).e201 ≡ None → (r : Refusal) → at_least 202 (rules s).e202 (at_least 203 (rules s).e203 (at_least 204 (rules s).e204 (at_least 205 (rules s).e205 (at_least 207 (rules s).e207 (at_least 208 (rules s).e208 (pasted (rules s).e209)))))) ≡ Some r → IsLeast s r
  from_202 n201 r e = by_split (split_some 202 (rules s).e202 (at_least 203 (rules s).e203 (at_least 204 (rules s).e204 (at_least 205 (rules s).e205 (at_least 207 (rules s).e207 (at_least 208 (rules s).e208 (pasted (rules s).e209)))))) r e)
    where
      by_split : ((t : Token) × ((rules s).e202 ≡ Some t) × (r ≡ refusal_at 202 t)) ⊎ (((rules s).e202 ≡ None) × (at_least 203 (rules s).e203 (at_least 204 (rules s).e204 (at_least 205 (rules s).e205 (at_least 207 (rules s).e207 (at_least 208 (rules s).e208 (pasted (rules s).e209))))) ≡ Some r)) → IsLeast s r
      by_split (inl p) = least_with 202 p.0 r p.2 (undefined p.0 p.1) (above_202 n201) (only_202 p.0 p.1)
      by_split (inr q) = from_203 n201 q.0 r q.1

  from_201 : (r : Refusal) → at_least 201 (rules s).e201 (at_least 202 (rules s).e202 (at_least 203 (rules s).e203 (at_least 204 (rules s).e204 (at_least 205 (rules s).e205 (at_least 207 (rules s).e207 (at_least 208 (rules s).e208 (pasted (rules s).e209))))))) ≡ Some r → IsLeast s r
  from_201 r e = by_split (split_some 201 (rules s).e201 (at_least 202 (rules s).e202 (at_least 203 (rules s).e203 (at_least 204 (rules s).e204 (at_least 205 (rules s).e205 (at_least 207 (rules s).e207 (at_least 208 (rules s).e208 (pasted (rules s).e209))))))) r e)
    where
      by_split : ((t : Token) × ((rules s).e201 ≡ Some t) × (r ≡ refusal_at 201 t)) ⊎ (((rules s).e201 ≡ None) × (at_least 202 (rules s).e202 (at_least 203 (rules s).e203 (at_least 204 (rules s).e204 (at_least 205 (rules s).e205 (at_least 207 (rules s).e207 (at_least 208 (rules s).e208 (pasted (rules s).e209)))))) ≡ Some r)) → IsLeast s r
      by_split (inl p) = least_with 201 p.0 r p.2 (directive p.0 p.1) (above_201) (only_201 p.0 p.1)
      by_split (inr q) = from_202 q.0 r q.1

  none_broken : first (rules s) ≡ None → (r : Refusal) → Breaks s r → ⊥
  none_broken e r b =
      let s201 = split_none 201 (rules s).e201 (at_least 202 (rules s).e202 (at_least 203 (rules s).e203 (at_least 204 (rules s).e204 (at_least 205 (rules s).e205 (at_least 207 (rules s).e207 (at_least 208 (rules s).e208 (pasted (rules s).e209))))))) e in
      let s202 = split_none 202 (rules s).e202 (at_least 203 (rules s).e203 (at_least 204 (rules s).e204 (at_least 205 (rules s).e205 (at_least 207 (rules s).e207 (at_least 208 (rules s).e208 (pasted (rules s).e209)))))) s201.1 in
      let s203 = split_none 203 (rules s).e203 (at_least 204 (rules s).e204 (at_least 205 (rules s).e205 (at_least 207 (rules s).e207 (at_least 208 (rules s).e208 (pasted (rules s).e209))))) s202.1 in
      let s204 = split_none 204 (rules s).e204 (at_least 205 (rules s).e205 (at_least 207 (rules s).e207 (at_least 208 (rules s).e208 (pasted (rules s).e209)))) s203.1 in
      let s205 = split_none 205 (rules s).e205 (at_least 207 (rules s).e207 (at_least 208 (rules s).e208 (pasted (rules s).e209))) s204.1 in
      let s207 = split_none 207 (rules s).e207 (at_least 208 (rules s).e208 (pasted (rules s).e209)) s205.1 in
      let s208 = split_none 208 (rules s).e208 (pasted (rules s).e209) s207.1 in
      no_rule s201.0 s202.0 s203.0 s204.0 s205.0 s207.0 s208.0 (pasted_none (rules s).e209 s208.1) r b
    where
      no_rule : (rules s).e201 ≡ None → (rules s).e202 ≡ None → (rules s).e203 ≡ None → (rules s).e204 ≡ None → (rules s).e205 ≡ None → (rules s).e207 ≡ None → (rules s).e208 ≡ None → (rules s).e209 ≡ None → (r : Refusal) → Breaks s r → ⊥
      no_rule n201 n202 n203 n204 n205 n207 n208 n209 _ (directive t f) = none_some _ t n201 f
      no_rule n201 n202 n203 n204 n205 n207 n208 n209 _ (undefined t f) = none_some _ t n202 f
      no_rule n201 n202 n203 n204 n205 n207 n208 n209 _ (number t f) = none_some _ t n203 f
      no_rule n201 n202 n203 n204 n205 n207 n208 n209 _ (own t f) = none_some _ t n204 f
      no_rule n201 n202 n203 n204 n205 n207 n208 n209 _ (balance t f) = none_some _ t n205 f
      no_rule n201 n202 n203 n204 n205 n207 n208 n209 _ (limit t f) = none_some _ t n207 f
      no_rule n201 n202 n203 n204 n205 n207 n208 n209 _ (closed t f) = none_some _ t n208 f
      no_rule n201 n202 n203 n204 n205 n207 n208 n209 _ (paste t f) = none_some _ t n209 f

answered : (s : State) (st : Step) → Agrees st (rules s) → Answered s st
answered s (goes t) e = none_broken s (sym e)
answered s (gives u t) e = none_broken s (sym e)
answered s (takes u t) e = none_broken s (sym e)
answered s (looks q t) e = none_broken s (sym e)
answered s (done t) e = none_broken s (sym e)
answered s (breaks r names) e = from_201 s r (sym e)

pub least_is_answered : LeastIsAnswered
least_is_answered = λ set s. answered s (spec.step set s) (step_agrees set s)
