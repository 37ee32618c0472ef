-- Bodies behind heads.
use Rattle.std.proofs.Common.{◌≡◌, List, map, Option, Some, ℕ, refl, sym, ap, ◌∙◌, subst}
use Rattle.std.specs.Prelude.{Result, Ok, Err, IfOk}
use Rattle.sv_tree.specs.declared.functions.Formal as G
use Rattle.sv_tree.specs.declared.statements.BlockItem.{BlockItem}
use Rattle.sv_types.specs.declared.statement.Formal.{Formal}
use Rattle.sv_types.specs.declared.statement.Function.{Function}
use Rattle.sv_types.specs.declared.statement.Stmt.{Stmt}
use Rattle.expr_type.specs.declared.halt.Halt.{Halt}
use Rattle.expr_type.specs.declared.halt.Halt.TheVariants as H
use Rattle.expr_type.specs.Functions.{FormalFound, ResultFound, Head, at_first, behind_head, formals, head, head_of, in_body}
use Rattle.expr_type.specs.Names.{Context}
use Rattle.expr_type.specs.Statements.{block, item_meaning}
use Rattle.expr_type.specs.Typings.{Typing, rule}
use Rattle.routine_fits.specs.Sound.{AllSoundFunctions}
use Rattle.routine_laws.specs.Sound.{SoundResult}
use Rattle.routine_laws.proofs.Heads.{body-sound}
use Rattle.typing_scopes.specs.Ahead.{halted}
use Rattle.typing_steps.specs.Steps.{StopsBy, TypesTo}
use Rattle.typing_steps.proofs.Following.{by-breaks, by-fine, by-second}
use Rattle.typing_values.specs.Values.{behind}
use Rattle.typing_walks.specs.Keeps.{Surrounded}
use Rattle.typing_declarations.specs.FormalRows.{FormalsTo, HeadsTo, IsHead, head_rest}
use Rattle.typing_declarations.proofs.Heading.{head-is}
use Rattle.typing_declarations.proofs.Parts.{beside-quiet, both-breaks, both-quiet, both-whole}
use Rattle.typing_stmts.specs.Routines.{AreParts, BehindTo, BodyTo, PartsTo, StopsOn, body_typed}

-- what is said where something is whole
pub where-ok : {A E : Type 0} (P : Type 0) (r : Result A E) (a : A) → r ≡ Ok a → IfOk r (λ b. P) → P
where-ok P r a is p = subst (λ q. IfOk q (λ b. P)) is p

moved : {A : Type 0} (P : A → Type 0) (a b : A) → a ≡ b → P b → P a
moved P a b e p = subst P (sym e) p

behind-is : {A : Type 0} (b : Result A Halt) → behind b ≡ halted b
behind-is (Ok a) = refl
behind-is (Err h) = refl

-- the text of a body: what makes the functions of the text around it known makes its functions known, and its names are sound
pub routine-in : (k i : Context) (name : ℕ) (r : ResultFound) → i ≡ in_body k name (Some r) → i.routine ≡ k.routine
routine-in k i name r e = ap (λ (x : Context). x.routine) e

pub names-in : (k i : Context) (name : ℕ) (r : ResultFound) (fs : List Function) → i ≡ in_body k name (Some r) → Surrounded AllSoundFunctions k → SoundResult r fs → Surrounded AllSoundFunctions i
names-in k i name r fs e s q = moved (λ (x : Context). Surrounded AllSoundFunctions x) i (in_body k name (Some r)) e (body-sound AllSoundFunctions k name r fs s q)

-- what is said of a body, by what it stands behind
pub behind-ok : (j k : Context) (made : Result (List Formal) Halt) (m : List Formal) (r : Result (List Formal × Stmt) Halt) (items : List BlockItem) (fs gs : List Function) → made ≡ Ok m → BodyTo m r j items fs gs → BehindTo made r j k items fs gs
behind-ok j k made m r items fs gs e p = moved (λ (z : Result (List Formal) Halt). BehindTo z r j k items fs gs) made (Ok m) e p

pub behind-err : (j k : Context) (made : Result (List Formal) Halt) (h stop : Halt) (items : List BlockItem) (fs gs : List Function) → made ≡ Err h → StopsOn h stop k items fs gs → BehindTo made (Err stop) j k items fs gs
behind-err j k made h stop items fs gs e p = moved (λ (z : Result (List Formal) Halt). BehindTo z (Err stop) j k items fs gs) made (Err h) e p

pub on-memory : (k : Context) (h : Halt) (items : List BlockItem) (fs gs : List Function) → h ≡ H.Memory → StopsOn h H.Memory k items fs gs
on-memory k h items fs gs e = moved (λ (z : Halt). StopsOn z H.Memory k items fs gs) h H.Memory e refl

pub on-breaks : (k : Context) (h : Halt) (at n : ℕ) (items : List BlockItem) (fs gs : List Function) → h ≡ H.Breaks at n → StopsOn h (H.Breaks at n) k items fs gs
on-breaks k h at n items fs gs e = moved (λ (z : Halt). StopsOn z (H.Breaks at n) k items fs gs) h (H.Breaks at n) e refl

pub on-quiet : (k : Context) (h stop : Halt) (b : Result Stmt Halt) (items : List BlockItem) (fs gs : List Function) → h ≡ H.Quiet → stop ≡ behind b → TypesTo b (block k (map item_meaning items) fs) gs → StopsOn h stop k items fs gs
on-quiet k h stop b items fs gs e is p = moved (λ (z : Halt). StopsOn z stop k items fs gs) h H.Quiet e (record { body = b; is = is; gives = p })

module _ (k : Context) (name : ℕ) (x : Typing ResultFound) (gs : List G.Formal) (items : List BlockItem) where
  abbrev formals_by : Option ResultFound → Typing (List FormalFound)
  formals_by o = formals (in_body k name o) at_first gs

  abbrev heads_by : ResultFound → List FormalFound → Typing Head
  heads_by r xs = rule (head_of k name r xs)

  abbrev block_by : Option Head → Typing Stmt
  block_by o = block (behind_head k name o) (map item_meaning items)

  -- a head behind a result that is whole
  whole-head : (j : Context) (made : List Formal) (r : ResultFound) (fs gs' hs : List Function) (a : IsHead made j (in_body k name (Some r)) (formals_by (Some r) gs') hs) → TypesTo (Ok r) (x fs) gs'
      → TypesTo (Ok (record { result = r; formals = a.are.found })) (head k name x gs fs) hs
  whole-head j made r fs gs' hs a is =
      both-whole x formals_by heads_by fs gs' hs r (Ok (record { result = r; formals = a.are.found })) is (head-is k (in_body k name (Some r)) j gs gs' hs made name r a)

  stopped-head : (r : ResultFound) (fs gs' hs : List Function) (h : Halt) → TypesTo (Ok r) (x fs) gs' → StopsBy h (head_rest k (in_body k name (Some r)) name r gs gs') hs → TypesTo {A = Head} (Err h) (head k name x gs fs) hs
  stopped-head r fs gs' hs h is s = both-whole x formals_by heads_by fs gs' hs r (Err h) is s

  -- behind a result that breaks nothing and isn't whole
  lost-head : (j : Context) (made : Result (List Formal) Halt) (fs gs' hs : List Function) → TypesTo {A = ResultFound} (Err H.Quiet) (x fs) gs' → FormalsTo made j k (formals k at_first gs gs') hs
      → TypesTo {A = Head} (Err (behind made)) (head k name x gs fs) hs
  lost-head j (Ok made) fs gs' hs is a = both-quiet x formals_by heads_by fs gs' hs (Ok a.found) is a.gives
  lost-head j (Err h) fs gs' hs is s = both-quiet x formals_by heads_by fs gs' hs (Err h) is s

  -- the body behind it
  parts-fine : (j : Context) (made : List Formal) (body : Stmt) (r : ResultFound) (fs gs' hs js : List Function) → TypesTo (Ok r) (x fs) gs' → IsHead made j (in_body k name (Some r)) (formals_by (Some r) gs') hs
      → TypesTo (Ok body) (block j (map item_meaning items) hs) js → AreParts made body r (body_typed k name x gs items fs) js
  parts-fine j made body r fs gs' hs js is a b =
      let h : Head = record { result = r; formals = a.are.found } in
      let there : TypesTo (Ok body) (block_by (Some h) hs) js = subst (λ (i : Context). TypesTo (Ok body) (block i (map item_meaning items) hs) js) a.are.behind b in
      record {
        head = h;
        gives = by-fine (head k name x gs) block_by fs hs js h body (whole-head j made r fs gs' hs a is) there;
        result = refl;
        formals = a.are.listed;
      }

  parts-second : (j : Context) (made : List Formal) (r : ResultFound) (fs gs' hs js : List Function) (h : Halt) → TypesTo (Ok r) (x fs) gs' → IsHead made j (in_body k name (Some r)) (formals_by (Some r) gs') hs
      → TypesTo {A = Stmt} (Err h) (block j (map item_meaning items) hs) js → StopsBy h (body_typed k name x gs items fs) js
  parts-second j made r fs gs' hs js h is a b =
      let z : Head = record { result = r; formals = a.are.found } in
      by-second (head k name x gs) block_by fs hs js z h (whole-head j made r fs gs' hs a is)
      (subst (λ (i : Context). TypesTo {A = Stmt} (Err h) (block i (map item_meaning items) hs) js) a.are.behind b)

  by-body : (j : Context) (made : List Formal) (result : Result (List Formal × Stmt) Halt) (r : ResultFound) (fs gs' hs js : List Function) → TypesTo (Ok r) (x fs) gs' → IsHead made j (in_body k name (Some r)) (formals_by (Some r) gs') hs
      → BodyTo made result j items hs js → PartsTo result r (body_typed k name x gs items fs) js
  by-body j made (Ok p) r fs gs' hs js is a b =
      moved (λ (z : List Formal). AreParts z p.1 r (body_typed k name x gs items fs) js) p.0 made b.0 (parts-fine j made p.1 r fs gs' hs js is a b.1)
  by-body j made (Err h) r fs gs' hs js is a b = parts-second j made r fs gs' hs js h is a b

  -- behind a head that stopped
  stops-on : (h stop : Halt) (fs hs js : List Function) → TypesTo {A = Head} (Err h) (head k name x gs fs) hs → StopsOn h stop k items hs js → StopsBy stop (body_typed k name x gs items fs) js
  stops-on H.Memory stop fs hs js p s = moved (λ (z : Halt). StopsBy z (body_typed k name x gs items fs) js) stop H.Memory s tt
  stops-on (H.Breaks at n) stop fs hs js p s =
      moved (λ (z : Halt). StopsBy z (body_typed k name x gs items fs) js) stop (H.Breaks at n) s (by-breaks (head k name x gs) block_by fs hs js at n p)
  stops-on H.Quiet stop fs hs js p s =
      moved (λ (z : Halt). StopsBy z (body_typed k name x gs items fs) js) stop (halted s.body) (s.is ∙ behind-is s.body) (beside-quiet (head k name x gs) block_by fs hs js s.body p s.gives)

  by-head : (j : Context) (made : Result (List Formal) Halt) (result : Result (List Formal × Stmt) Halt) (r : ResultFound) (fs gs' hs js : List Function) → TypesTo (Ok r) (x fs) gs' → HeadsTo made name j (in_body k name (Some r)) gs gs' hs
      → BehindTo made result j k items hs js → PartsTo result r (body_typed k name x gs items fs) js
  by-head j (Ok made) result r fs gs' hs js is a b = by-body j made result r fs gs' hs js is a b
  by-head j (Err h) (Ok p) r fs gs' hs js is a b = absurd b
  by-head j (Err h) (Err stop) r fs gs' hs js is a b = stops-on h stop fs hs js (stopped-head r fs gs' hs h is (a k r)) b

  -- all that is said of a body
  pub parts-by : (j i : Context) (made : Result (List Formal) Halt) (result : Result (List Formal × Stmt) Halt) (r : ResultFound) (fs gs' hs js : List Function) → i ≡ in_body k name (Some r) → TypesTo (Ok r) (x fs) gs' → HeadsTo made name j i gs gs' hs
      → BehindTo made result j k items hs js → PartsTo result r (body_typed k name x gs items fs) js
  parts-by j i made result r fs gs' hs js same is a b = by-head j made result r fs gs' hs js is (subst (λ (z : Context). HeadsTo made name j z gs gs' hs) same a) b

  pub lost-by : (j i : Context) (made : Result (List Formal) Halt) (looked stop : Halt) (fs gs' hs js : List Function) → i ≡ k → looked ≡ behind made → TypesTo {A = ResultFound} (Err H.Quiet) (x fs) gs'
      → FormalsTo made j i (formals i at_first gs gs') hs → StopsOn looked stop k items hs js → StopsBy stop (body_typed k name x gs items fs) js
  lost-by j i made looked stop fs gs' hs js same e is a s =
      let there : FormalsTo made j k (formals k at_first gs gs') hs = subst (λ (z : Context). FormalsTo made j z (formals z at_first gs gs') hs) same a in
      stops-on looked stop fs hs js (moved (λ (z : Halt). TypesTo {A = Head} (Err z) (head k name x gs fs) hs) looked (behind made) e (lost-head j made fs gs' hs is there)) s

  -- a result that breaks a rule
  pub result-broken : (fs gs' js : List Function) (at n : ℕ) → TypesTo {A = ResultFound} (Err (H.Breaks at n)) (x fs) gs' → StopsBy (H.Breaks at n) (body_typed k name x gs items fs) js
  result-broken fs gs' js at n p = by-breaks (head k name x gs) block_by fs gs' js at n (both-breaks x formals_by heads_by fs gs' gs' at n p)
