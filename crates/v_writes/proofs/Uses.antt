-- What targets write, form by form.
use Rattle.std.proofs.Common.{◌≡◌, ℕ, Bool, true, false, List, [], ◌∷◌, ◌++◌, map, Option, sym, ap, ◌∙◌, refl}
use Rattle.std.specs.Prelude.{flat_map, cond, slice_index_or}
use Rattle.b4_core.specs.declared.bit.Bit4.TheVariants.{X}
use Rattle.row_machine.specs.Valuation.{Valuation}
use Rattle.v_tree.specs.Names.{Name}
use Rattle.v_tree.specs.declared.expressions.VSel.{VSel}
use Rattle.v_tree.specs.declared.statements.VLval.{VLval}
use Rattle.v_tree.specs.declared.statements.VLval.TheVariants as G
use Rattle.v_meaning.specs.Scopes as S
use Rattle.v_meaning.specs.Scopes.{Use, is_signal}
use Rattle.v_meaning.specs.Selects as T
use Rattle.v_meaning.specs.Values.{sel_meaning, use_of, unseen}
use Rattle.v_meaning.specs.Statements.{Target, target, name_target, joined_target}
use Rattle.picks.specs.Windows.{Window}
use Rattle.v_eval.specs.Holding.{holding}
use Rattle.v_eval.specs.Names.{nameless, names_of}
use Rattle.v_eval.specs.Paths.{named_or_not, path_of}
use Rattle.v_eval.specs.Scopes.{scope_of}
use Rattle.v_eval.specs.declared.paths.Named.{Named}
use Rattle.v_eval.specs.declared.paths.Path.{Path}
use Rattle.v_eval.specs.declared.scopes.Scope.{Scope}
use Rattle.v_constants.specs.Constants.{leading}
use Rattle.v_constants.proofs.Prefixes.{prefix-leading}
use Rattle.v_run.proofs.Targeted.{is-name, is-concat}
use Rattle.v_writes.specs.declared.targets.Written.{Written}
use Rattle.v_writes.specs.Writes.{use_in}

-- where nothing is held, nothing is known
pub nothing-held : holding [] [] [] ≡ unseen
nothing-held = λ i q. by q.bit (is_signal q.signal) i
  where
    by : (k : ℕ) (b : Bool) → slice_index_or (cond b [] []) k X ≡ X
    by k true = refl
    by k false = refl

-- the use of a name whose constant selects name a path
pub use-found : (w : Written) (n : S.Named) (ss ks : List VSel) (q : Path) (v : Valuation) (sc : S.Scope) → ks ≡ leading sc ss → v ≡ unseen → w.number ≡ n.number → w.low ≡ (path_of q).window.low
    → w.high ≡ (path_of q).window.high → path_of q ≡ T.path_from sc v (map sel_meaning ks) (T.start n) → use_in w ≡ use_of n (map sel_meaning ss) sc
use-found w n ss ks q v sc prefix blind number low high path =
    let at : (path_of q).window ≡ T.prefix_from sc unseen (map sel_meaning ss) (T.start n) =
    ap (λ (p : T.Path). p.window) (path ∙ ap (λ u. T.path_from sc u (map sel_meaning ks) (T.start n)) blind ∙ ap (λ xs. T.path_from sc unseen (map sel_meaning xs) (T.start n)) prefix)
    ∙ prefix-leading sc unseen ss (T.start n) in
    λ i. record { number = number i; low = (low ∙ ap (λ (x : Window). x.low) at) i; high = (high ∙ ap (λ (x : Window). x.high) at) i }

name-writes : (n : Name) (ss : List T.SelMeaning) (sc : S.Scope) → use_of (nameless (S.named sc.names n)) ss sc ∷ [] ≡ (name_target n ss).writes sc
unfolding name_target
name-writes n ss sc = refl

joined-writes : (ts : List Target) (sc : S.Scope) → flat_map (λ (t : Target). t.writes sc) ts ≡ (joined_target ts).writes sc
unfolding joined_target
joined-writes ts sc = refl

map-append : (xs ys : List Written) → map use_in (xs ++ ys) ≡ map use_in xs ++ map use_in ys
map-append [] ys = refl
map-append (x ∷ xs) ys = ap (λ l. use_in x ∷ l) (map-append xs ys)

pub name-added : (x : VLval) (n : Name) (ss : List VSel) (o : Option Named) (w : Written) (old new : List Written) (s : Scope) → x ≡ G.Name n ss → new ≡ old ++ w ∷ []
    → use_in w ≡ use_of (named_or_not o) (map sel_meaning ss) (scope_of s) → named_or_not o ≡ nameless (S.named (names_of s) n) → map use_in new ≡ map use_in old ++ (target x).writes (scope_of s)
name-added x n ss o w old new s is more of found =
    ap (map use_in) more ∙ map-append old (w ∷ [])
    ∙ ap (λ l. map use_in old ++ l)
    (ap (λ u. u ∷ []) (of ∙ ap (λ m. use_of m (map sel_meaning ss) (scope_of s)) found) ∙ name-writes n (map sel_meaning ss) (scope_of s) ∙ sym (ap (λ (t : Target). t.writes (scope_of s)) (is-name x n ss is)))

pub concat-added : (x : VLval) (xs : List VLval) (old new : List Use) (sc : S.Scope) → x ≡ G.Concat xs → new ≡ old ++ flat_map (λ (t : Target). t.writes sc) (map target xs) → new ≡ old ++ (target x).writes sc
concat-added x xs old new sc is e = e ∙ ap (λ l. old ++ l) (joined-writes (map target xs) sc ∙ sym (ap (λ (t : Target). t.writes sc) (is-concat x xs is)))
