-- Items of `case` statements as they are found.
use Rattle.std.proofs.Common.{◌≡◌, ℕ, true, false, List, [], length, Option, refl, sym, ap, ◌∙◌, subst}
use Rattle.std.specs.Prelude.{Result, Ok, Err, Vec}
use Rattle.std.specs.declared.alloc.Global.{Global}
use Rattle.sv_tree.specs.declared.expressions.Expr.{Expr}
use Rattle.sv_tree.specs.declared.statements.CaseItem.{CaseItem, CaseItem-F, roll-CaseItem}
use Rattle.sv_tree.specs.declared.statements.Stmt as X
use Rattle.sv_types.specs.declared.statement.Function.{Function}
use Rattle.sv_types.specs.declared.statement.Stmt as R
use Rattle.expr_type.specs.declared.halt.Halt.{Halt}
use Rattle.expr_type.specs.declared.halt.Halt.TheVariants as H
use Rattle.expr_type.specs.declared.operand.Valued.{Valued}
use Rattle.expr_type.specs.Names.{Context}
use Rattle.expr_type.specs.Statements as D
use Rattle.expr_type.specs.Typings.{Checked, Typed, Typing, known_behind, tried}
use Rattle.known_functions.proofs.Laws.{cut-back}
use Rattle.function_cuts.proofs.Before.{before-is}
use Rattle.stmt_types.specs.Cases.{Found, Stops}
use Rattle.stmt_types.specs.Lists.{listed}
use Rattle.stmt_types.specs.declared.cases.CaseFound.{CaseFound}
use Rattle.typing_fits.specs.Sound.{Extends}
use Rattle.typing_parts.proofs.Keeping.{extends-same}
use Rattle.typing_steps.specs.Steps.{TypesTo}
use Rattle.typing_stmt_parts.specs.Items.{Ends, FoundTo, IsFoundTo, IsItem, Kept, NotLacking, is_loud, item_of, values_of}
use Rattle.typing_stmt_parts.proofs.Levels.{CaseLevel, case-meant, case_level}

-- what is typed, as it is found
pub found-by : {A : Type 0} (r : Result A Halt) (t : Typed A) (fs : List Function) → NotLacking r (Ok tt) → TypesTo r t fs → Found r t.result
found-by {A = A} (Ok a) t fs n p = ap (λ (u : Typed A). u.result) p
found-by (Err H.Memory) t fs n p = absurd (cc)
found-by (Err (H.Breaks at rule)) t fs n p = p
found-by (Err H.Quiet) t fs n p = p.quiet

-- the functions that are known behind it
pub known-by : {A : Type 0} (r : Result A Halt) (t : Typed A) (fs : List Function) → is_loud r ≡ false → TypesTo r t fs → t.functions ≡ fs
known-by {A = A} (Ok a) t fs n p = ap (λ (u : Typed A). u.functions) p
known-by (Err H.Memory) t fs n p = absurd (cc)
known-by (Err (H.Breaks at rule)) t fs n p = absurd (cc)
known-by (Err H.Quiet) t fs n p = p.functions

quiet-lacks : {A : Type 0} (r : Result A Halt) → is_loud r ≡ false → NotLacking r (Ok tt)
quiet-lacks (Ok a) n = refl
quiet-lacks (Err H.Memory) n = absurd (cc)
quiet-lacks (Err (H.Breaks at rule)) n = absurd (cc)
quiet-lacks (Err H.Quiet) n = refl

quiet-stops : {A : Type 0} (r : Result A Halt) (T : Type 0) → is_loud r ≡ false → T → Stops r T
quiet-stops (Ok a) T n t = t
quiet-stops (Err H.Memory) T n t = absurd (cc)
quiet-stops (Err (H.Breaks at rule)) T n t = absurd (cc)
quiet-stops (Err H.Quiet) T n t = t

loud-stops : {A : Type 0} (r : Result A Halt) (T : Type 0) → is_loud r ≡ true → NotLacking r (Ok tt) → Stops r T
loud-stops (Ok a) T n l = absurd (cc)
loud-stops (Err H.Memory) T n l = absurd (cc)
loud-stops (Err (H.Breaks at rule)) T n l = tt
loud-stops (Err H.Quiet) T n l = absurd (cc)

pub listed-loud : {A : Type 0} (r : Result (Vec A Global) Halt) → is_loud (listed r) ≡ is_loud r
listed-loud (Ok v) = refl
listed-loud (Err H.Memory) = refl
listed-loud (Err (H.Breaks at rule)) = refl
listed-loud (Err H.Quiet) = refl

-- behind a statement that isn't whole the functions are known that were known before it
forgets : {A : Type 0} (c : Checked A) (gs hs : List Function) (h : Halt) → Found {A = A} (Err h) c → known_behind c gs hs ≡ gs
forgets c gs hs H.Memory f = absurd f
forgets (Ok a) gs hs (H.Breaks at rule) f = absurd (cc)
forgets (Err x) gs hs (H.Breaks at rule) f = refl
forgets (Ok a) gs hs H.Quiet f = absurd (cc)
forgets (Err x) gs hs H.Quiet f = refl

pub tried-known : {A : Type 0} (x : Typing A) (r : Result A Halt) (gs hs js : List Function) → NotLacking r (Ok tt) → TypesTo r (x gs) hs → Extends gs hs → Kept r hs js (length gs) → (tried x gs).functions ≡ js
tried-known {A = A} x (Ok a) gs hs js n p e k =
    ap (λ (c : Checked A). known_behind c gs (x gs).functions) (ap (λ (u : Typed A). u.result) p) ∙ ap (λ (u : Typed A). u.functions) p ∙ sym k
tried-known x (Err h) gs hs js n p e k = forgets (x gs).result gs (x gs).functions h (found-by (Err h) (x gs) hs n p) ∙ sym (cut-back gs hs e) ∙ sym k

-- an item with values
module _ (k : Context) (x : CaseItem) (es : List Expr) (colon : ℕ) (body : X.Stmt) (fs gs : List Function) (vs : Result (Vec Valued Global) Halt) (is : x ≡ roll-CaseItem (CaseItem-F.Values es colon body)) (v : TypesTo (listed vs) (values_of k es fs) gs) where
  abbrev level : CaseLevel
  level = CaseItem-F.Values es colon body

  abbrev behind : List Function
  behind = (values_of k es fs).functions

  abbrev item : D.CaseFound
  item = record { is_default = false; values = (values_of k es fs).result; body = (D.typed_stmt k body behind).result }

  here : item_of k x fs ≡ case_level level k fs
  here = ap (λ (t : Typing D.CaseFound). t fs) (case-meant level k x is)

  -- which break a rule
  ended-item : (c : CaseFound) (hs : List Function) → is_loud vs ≡ true → Ends (listed vs) (Ok c) → IsFoundTo c (item_of k x fs) hs
  ended-item c hs loud e =
      let same : listed c.values ≡ listed vs = e.1 in
      let l : is_loud (listed vs) ≡ true = listed-loud vs ∙ loud in
      let n = e.3 in
      record {
        of = item;
        gives = ap (λ (t : Typed D.CaseFound). t.result) here;
        functions = subst (λ (r : Result (List Valued) Halt). Stops r ((item_of k x fs).functions ≡ hs)) (sym same) (loud-stops (listed vs) ((item_of k x fs).functions ≡ hs) l n);
        found = record {
          default = e.0;
          values = subst (λ (r : Result (List Valued) Halt). Found r item.values) (sym same) (found-by (listed vs) (values_of k es fs) gs n v);
          body = subst (λ (r : Result (List Valued) Halt). Stops r (Found c.body item.body)) (sym same) (loud-stops (listed vs) (Found c.body item.body) l n);
        };
      }

  pub values-end : (r : Result CaseFound Halt) (hs : List Function) → is_loud vs ≡ true → Ends (listed vs) r → FoundTo r (item_of k x fs) hs
  values-end (Ok c) hs loud e = ended-item c hs loud e
  values-end (Err h) hs loud e = e

  -- and which don't
  whole-item : (c : CaseFound) (made : Result R.Stmt Halt) (hs js : List Function) → is_loud vs ≡ false → TypesTo made (D.typed_stmt k body gs) hs → Extends gs hs → Kept made hs js (length gs) → IsItem false vs made (Ok c)
      → IsFoundTo c (item_of k x fs) js
  whole-item c made hs js quiet m e kept i =
      let q : is_loud (listed vs) ≡ false = listed-loud vs ∙ quiet in
      let known : behind ≡ gs = known-by (listed vs) (values_of k es fs) gs q v in
      let values : listed c.values ≡ listed vs = ap listed i.1 in
      let n = i.3 in
      let functions : (item_of k x fs).functions ≡ js =
      ap (λ (t : Typed D.CaseFound). t.functions) here ∙ ap (λ (ls : List Function). (tried (D.typed_stmt k body) ls).functions) known ∙ tried-known (D.typed_stmt k body) made gs hs js n m e kept in
      let statement : Found made item.body = subst (λ (ls : List Function). Found made (D.typed_stmt k body ls).result) (sym known) (found-by made (D.typed_stmt k body gs) hs n m) in
      record {
        of = item;
        gives = ap (λ (t : Typed D.CaseFound). t.result) here;
        functions = subst (λ (r : Result (List Valued) Halt). Stops r ((item_of k x fs).functions ≡ js)) (sym values) (quiet-stops (listed vs) ((item_of k x fs).functions ≡ js) q functions);
        found = record {
          default = i.0;
          values = subst (λ (r : Result (List Valued) Halt). Found r item.values) (sym values) (found-by (listed vs) (values_of k es fs) gs (quiet-lacks (listed vs) q) v);
          body = subst (λ (r : Result (List Valued) Halt). Stops r (Found c.body item.body)) (sym values)
              (quiet-stops (listed vs) (Found c.body item.body) q (subst (λ (r : Result R.Stmt Halt). Found r item.body) (sym i.2) statement));
        };
      }

  pub values-found : (r : Result CaseFound Halt) (made : Result R.Stmt Halt) (hs js : List Function) → is_loud vs ≡ false → TypesTo made (D.typed_stmt k body gs) hs → Extends gs hs → Kept made hs js (length gs) → IsItem false vs made r
      → FoundTo r (item_of k x fs) js
  values-found (Ok c) made hs js quiet m e kept i = whole-item c made hs js quiet m e kept i
  values-found (Err h) made hs js quiet m e kept i = i

-- an item without values
module _ (k : Context) (x : CaseItem) (keyword : ℕ) (colon : Option ℕ) (body : X.Stmt) (fs : List Function) (vs : Result (Vec Valued Global) Halt) (is : x ≡ roll-CaseItem (CaseItem-F.Default keyword colon body)) (none : listed vs ≡ Ok []) where
  abbrev default_level : CaseLevel
  default_level = CaseItem-F.Default keyword colon body

  abbrev other : D.CaseFound
  other = record { is_default = true; values = Ok []; body = (D.typed_stmt k body fs).result }

  other-here : item_of k x fs ≡ case_level default_level k fs
  other-here = ap (λ (t : Typing D.CaseFound). t fs) (case-meant default_level k x is)

  default-item : (c : CaseFound) (made : Result R.Stmt Halt) (hs js : List Function) → TypesTo made (D.typed_stmt k body fs) hs → Extends fs hs → Kept made hs js (length fs) → IsItem true vs made (Ok c)
      → IsFoundTo c (item_of k x fs) js
  default-item c made hs js m e kept i =
      let values : listed c.values ≡ Ok [] = ap listed i.1 ∙ none in
      let n = i.3 in
      let functions : (item_of k x fs).functions ≡ js = ap (λ (t : Typed D.CaseFound). t.functions) other-here ∙ tried-known (D.typed_stmt k body) made fs hs js n m e kept in
      record {
        of = other;
        gives = ap (λ (t : Typed D.CaseFound). t.result) other-here;
        functions = subst (λ (r : Result (List Valued) Halt). Stops r ((item_of k x fs).functions ≡ js)) (sym values) functions;
        found = record {
          default = i.0;
          values = subst (λ (r : Result (List Valued) Halt). Found r other.values) (sym values) refl;
          body = subst (λ (r : Result (List Valued) Halt). Stops r (Found c.body other.body)) (sym values)
              (subst (λ (r : Result R.Stmt Halt). Found r other.body) (sym i.2) (found-by made (D.typed_stmt k body fs) hs n m));
        };
      }

  pub default-found : (r : Result CaseFound Halt) (made : Result R.Stmt Halt) (hs js : List Function) → TypesTo made (D.typed_stmt k body fs) hs → Extends fs hs → Kept made hs js (length fs) → IsItem true vs made r
      → FoundTo r (item_of k x fs) js
  default-found (Ok c) made hs js m e kept i = default-item c made hs js m e kept i
  default-found (Err h) made hs js m e kept i = i

-- the functions that were known before a statement stay known
pub kept-extends : {A : Type 0} (r : Result A Halt) (gs hs js : List Function) (n : ℕ) → n ≡ length gs → Extends gs hs → Kept r hs js n → Extends gs js
kept-extends (Ok a) gs hs js n is e k = subst (λ (ls : List Function). Extends gs ls) (sym k) e
kept-extends (Err h) gs hs js n is e k = subst (λ (ls : List Function). Extends gs ls) (sym (k ∙ before-is gs hs n is e)) (extends-same gs)
