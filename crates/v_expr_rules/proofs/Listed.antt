-- Lists tell what the rules tell, where their items do.
use Rattle.std.proofs.Common.{◌≡◌, ℕ, zero, suc, ◌+◌, ◌==◌, Bool, true, false, ◌&&◌, ◌||◌, List, [], ◌∷◌, ◌++◌, length, slice_get, Option, Some, None, refl, sym, ap, ◌∙◌, subst, max, if◌then◌else◌, append_assoc, arith}
use Rattle.std.specs.List.{list_all}
use Rattle.std.proofs.lemmas.Bool.Decides.{nat_tests}
use Rattle.std.proofs.lemmas.List.{append-nil}
use Rattle.v_tree.specs.Scopes.{bits_of}
use Rattle.v_tree.specs.ExprRules.{Around, Rules, alone, total, widths, listed_size, each_from, args_broken}
use Rattle.v_tree.specs.declared.items.VItem.{VItem}
use Rattle.v_tree.specs.declared.items.VLocal.{VLocal}
use Rattle.v_scopes.specs.Env.{Env}
use Rattle.v_expr_rules.specs.declared.seen.Seen.{Seen}
use Rattle.v_expr_rules.specs.declared.lists.ListSeen.{ListSeen}
use Rattle.v_expr_rules.specs.Seen as S
use Rattle.v_expr_rules.specs.Seen.{plus, earlier, bits_plus, bits_capped, is_wide, in_context, no_items, item_added, commas, input_wide}
use Rattle.v_expr_rules.specs.Least.{cap, first}
use Rattle.v_expr_rules.specs.Walks.{Walk, list_from}
use Rattle.v_expr_rules.specs.Things.{widths_of, around}
use Rattle.v_expr_rules.specs.Exact.{Fits, Exact}
use Rattle.v_expr_rules.proofs.Saturation.{plus-cap, bits_plus-capped, is_wide-max, first-append}
use Rattle.v_expr_rules.proofs.Operands.{sum-of, wide-of, alone-of}

-- each of a list has its walk
pub data Each {A B : Type 0} (P : A → B → Type 0) : List A → List B → Type 0 where
  none : Each P [] []
  more : {x : A} {y : B} {xs : List A} {ys : List B} → P x y → Each P xs ys → Each P (x ∷ xs) (y ∷ ys)

-- the tokens of these items, with a comma behind each
abbrev pub before : List Rules → ℕ
before [] = 0
before (r ∷ rs) = suc (r.size + before rs)

pub listed-push : (rs : List Rules) (r : Rules) → listed_size (rs ++ (r ∷ [])) ≡ before rs + r.size
listed-push [] r = omega arith
listed-push (q ∷ []) r = omega arith
listed-push (q ∷ p ∷ rs) r = let h = listed-push (p ∷ rs) r in omega (arith, h)

before-listed : (q : Rules) (rs : List Rules) → before (q ∷ rs) ≡ listed_size (q ∷ rs) + 1
before-listed q [] = omega arith
before-listed q (p ∷ rs) = let h = before-listed p rs in omega (arith, h)

not-first : (n size : ℕ) → commas (suc n) size ≡ plus size 1
not-first n size = ap (λ b. if b then 0 else plus size 1) (suc-test n)
  where
    suc-test : (n : ℕ) → (suc n == 0) ≡ false
    suc-test n = grind (arith, nat_tests)

pub commas-before : (rs : List Rules) (size : ℕ) → size ≡ cap (listed_size rs) → commas (length rs) size ≡ cap (before rs)
commas-before [] size e = refl
commas-before (q ∷ rs) size e = not-first (length rs) size ∙ (λ i. plus (e i) 1) ∙ plus-cap (listed_size (q ∷ rs)) 1 ∙ ap cap (sym (before-listed q rs))

here : (at : ℕ) → at ≡ at + 0
here at = omega arith

behind : (at size further : ℕ) → (at + suc size) + further ≡ at + suc (size + further)
behind at size further = omega arith

pub each-push : (f : Rules → ℕ → List ℕ) (rs : List Rules) (r : Rules) (at : ℕ) → each_from f (rs ++ (r ∷ [])) at ≡ each_from f rs at ++ f r (at + before rs)
each-push f [] r at = append-nil (f r at) ∙ ap (f r) (here at)
each-push f (q ∷ rs) r at =
    ap (λ (ts : List ℕ). f q at ++ ts) (each-push f rs r (at + suc q.size) ∙ ap (λ n. each_from f rs (at + suc q.size) ++ f r n) (behind at q.size (before rs)))
    ∙ sym (append_assoc (f q at) (each_from f rs (at + suc q.size)) (f r (at + before (q ∷ rs))))

-- an argument of an input, or a value alone
abbrev arg : Option ℕ → Rules → Around → ℕ → List ℕ
arg None r a at = alone r a at
arg (Some n) r a at = r.broken a (max n (r.width a)) at

args-push : (ns : List ℕ) (rs : List Rules) (r : Rules) (a : Around) (at : ℕ)
    → args_broken ns (rs ++ (r ∷ [])) a at ≡ args_broken ns rs a at ++ arg (slice_get ns (length rs)) r a (at + before rs)
args-push [] [] r a at = append-nil (alone r a at) ∙ ap (alone r a) (here at)
args-push (n ∷ ns) [] r a at = append-nil (arg (Some n) r a at) ∙ ap (arg (Some n) r a) (here at)
args-push [] (q ∷ rs) r a at =
    ap (λ (ts : List ℕ). alone q a at ++ ts) (args-push [] rs r a (at + suc q.size) ∙ ap (λ n. args_broken [] rs a (at + suc q.size) ++ alone r a n) (behind at q.size (before rs)))
    ∙ sym (append_assoc (alone q a at) (args_broken [] rs a (at + suc q.size)) (alone r a (at + before (q ∷ rs))))
args-push (n ∷ ns) (q ∷ rs) r a at =
    ap (λ (ts : List ℕ). q.broken a (max n (q.width a)) at ++ ts)
    (args-push ns rs r a (at + suc q.size) ∙ ap (λ m. args_broken ns rs a (at + suc q.size) ++ arg (slice_get ns (length rs)) r a m) (behind at q.size (before rs)))
    ∙ sym (append_assoc (q.broken a (max n (q.width a)) at) (args_broken ns rs a (at + suc q.size)) (arg (slice_get ns (length rs)) r a (at + before (q ∷ rs))))

-- without inputs each stands alone
pub args-alone : (rs : List Rules) (a : Around) (at : ℕ) → args_broken [] rs a at ≡ each_from (λ r from. alone r a from) rs at
args-alone [] a at = refl
args-alone (r ∷ rs) a at = ap (λ (ts : List ℕ). alone r a at ++ ts) (args-alone rs a (at + suc r.size))

total-push : (rs : List Rules) (r : Rules) (a : Around) → total (widths (rs ++ (r ∷ [])) a) ≡ total (widths rs a) + r.width a
total-push [] r a = omega arith
total-push (q ∷ rs) r a = let h = total-push rs r a in omega (arith, h)

and-one : (b : Bool) → (b && true) ≡ b
and-one true = refl
and-one false = refl

and-assoc : (b c d : Bool) → (b && (c && d)) ≡ ((b && c) && d)
and-assoc true c d = refl
and-assoc false c d = refl

all-push : (rs : List Rules) (r : Rules) → list_all (λ (q : Rules). q.is_target) (rs ++ (r ∷ [])) ≡ (list_all (λ (q : Rules). q.is_target) rs && r.is_target)
all-push [] r = and-one r.is_target
all-push (q ∷ rs) r = ap (λ b. q.is_target && b) (all-push rs r) ∙ and-assoc q.is_target (list_all (λ (q : Rules). q.is_target) rs) r.is_target

-- what is kept of a list
pub record ListFits (l : ListSeen) (rs : List Rules) (ns : List ℕ) (a : Around) (at : ℕ) : Type 0 where
  pub size : l.size ≡ cap (listed_size rs)
  pub width : l.width ≡ bits_capped (total (widths rs a))
  pub broken : l.first ≡ first (args_broken ns rs a at)
  pub target : l.is_target ≡ list_all (λ (q : Rules). q.is_target) rs
  pub driven : l.driven ≡ first (each_from (λ r from. r.driven a from) rs at)

abbrev width_in : Option VLocal → Option ℕ
width_in None = None
width_in (Some l) = Some (bits_of l.range)

get-width : (ls : List VLocal) (i : ℕ) → slice_get (widths_of ls) i ≡ width_in (slice_get ls i)
get-width [] i = refl
get-width (l ∷ ls) zero = refl
get-width (l ∷ ls) (suc i) = get-width ls i

arg-in : (o : Option VLocal) (s : Seen) (r : Rules) (a : Around) (at : ℕ) → Fits s r a at → in_context s (input_wide o || is_wide s.width) ≡ first (arg (width_in o) r a at)
arg-in None s r a at f = alone-of s r a at f
arg-in (Some l) s r a at f =
    ap (λ b. in_context s (is_wide (bits_of l.range) || b)) (wide-of s r a at f)
    ∙ ap (in_context s) (sym (is_wide-max (bits_of l.range) (r.width a)))
    ∙ f.broken (max (bits_of l.range) (r.width a))

no-bits : 0 ≡ bits_capped 0
unfolding bits_capped
no-bits = refl

no-items : (ns : List ℕ) (a : Around) (at : ℕ) → ListFits no_items [] ns a at
no-items [] a at = record { size = refl; width = no-bits; broken = refl; target = refl; driven = refl }
no-items (n ∷ ns) a at = record { size = refl; width = no-bits; broken = refl; target = refl; driven = refl }

-- one item more
one-item : (ls : List VLocal) (l : ListSeen) (rs : List Rules) (s : Seen) (r : Rules) (a : Around) (at : ℕ) → ListFits l rs (widths_of ls) a at → Fits s r a (at + before rs)
    → ListFits (item_added (input_wide (slice_get ls (length rs))) l (commas (length rs) l.size) s) (rs ++ (r ∷ [])) (widths_of ls) a at
one-item ls l rs s r a at k f = record {
  size = sum-of (commas (length rs) l.size) s.size (before rs) r.size (commas-before rs l.size k.size) f.size ∙ ap cap (sym (listed-push rs r));
  width = (λ i. bits_plus (k.width i) (f.width i)) ∙ bits_plus-capped (total (widths rs a)) (r.width a) ∙ ap bits_capped (sym (total-push rs r a));
  broken =
      (λ i. earlier (k.broken i) (arg-in (slice_get ls (length rs)) s r a (at + before rs) f i))
      ∙ ap (λ o. earlier (first (args_broken (widths_of ls) rs a at)) (first (arg o r a (at + before rs)))) (sym (get-width ls (length rs)))
      ∙ sym (first-append (args_broken (widths_of ls) rs a at) (arg (slice_get (widths_of ls) (length rs)) r a (at + before rs)))
      ∙ ap first (sym (args-push (widths_of ls) rs r a at));
  target = (λ i. k.target i && f.target i) ∙ sym (all-push rs r);
  driven =
      (λ i. earlier (k.driven i) (f.driven i))
      ∙ sym (first-append (each_from (λ r from. r.driven a from) rs at) (r.driven a (at + before rs)))
      ∙ ap first (sym (each-push (λ r from. r.driven a from) rs r at));
}

pub push-length : (rs : List Rules) (r : Rules) → length (rs ++ (r ∷ [])) ≡ suc (length rs)
push-length [] r = refl
push-length (q ∷ rs) r = ap suc (push-length rs r)

from-items : (ws : List Walk) (qs : List Rules) (env : Env) (items : List VItem) (ls : List VLocal) (at : ℕ) (l : ListSeen) (rs : List Rules) → Each Exact ws qs
    → ListFits l rs (widths_of ls) (around env items) at → ListFits (list_from ws env items ls (cap at) (length rs) l) (rs ++ qs) (widths_of ls) (around env items) at
from-items _ _ env items ls at l rs none k = subst (λ (ps : List Rules). ListFits l ps (widths_of ls) (around env items) at) (sym (append-nil rs)) k
from-items _ _ env items ls at l rs (more {x = w} {y = q} {xs = ws} {ys = qs} e es) k =
    let start : plus (cap at) (commas (length rs) l.size) ≡ cap (at + before rs) = sum-of (cap at) (commas (length rs) l.size) at (before rs) refl (commas-before rs l.size k.size) in
    let f = subst (λ n. Fits (w env items n) q (around env items) (at + before rs)) (sym start) (e env items (at + before rs)) in
    let one = one-item ls l rs (w env items (plus (cap at) (commas (length rs) l.size))) q (around env items) at k f in
    let rest = from-items ws qs env items ls at (item_added (input_wide (slice_get ls (length rs))) l (commas (length rs) l.size) (w env items (plus (cap at) (commas (length rs) l.size)))) (rs ++ (q ∷ [])) es one in
    let counted =
    subst (λ n. ListFits (list_from ws env items ls (cap at) n (item_added (input_wide (slice_get ls (length rs))) l (commas (length rs) l.size) (w env items (plus (cap at) (commas (length rs) l.size))))) ((rs ++ (q ∷ [])) ++ qs) (widths_of ls) (around env items) at)
    (push-length rs q) rest in
    subst (λ (ps : List Rules). ListFits (list_from ws env items ls (cap at) (suc (length rs)) (item_added (input_wide (slice_get ls (length rs))) l (commas (length rs) l.size) (w env items (plus (cap at) (commas (length rs) l.size))))) ps (widths_of ls) (around env items) at)
    (append_assoc rs (q ∷ []) qs) counted

pub list-fits : (ws : List Walk) (qs : List Rules) (env : Env) (items : List VItem) (ls : List VLocal) (at : ℕ) → Each Exact ws qs
    → ListFits (list_from ws env items ls (cap at) 0 no_items) qs (widths_of ls) (around env items) at
list-fits ws qs env items ls at es = from-items ws qs env items ls at no_items [] es (no-items (widths_of ls) (around env items) at)
