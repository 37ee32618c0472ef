-- A property of tokens that lexing and moving keep: of an expansion's state, and of what a token that is given on does to
-- it. A token is delivered only where one more is spent.
use Rattle.std.proofs.Common.{◌≡◌, ℕ, zero, suc, ◌+◌, ◌^◌, ◌≤◌, ◌==◌, ◌&&◌, not, nat_lt, Bool, true, false, List, [], ◌∷◌, ◌++◌, length, Option, Some, None, All, refl, arith, length-append}
use Rattle.std.proofs.lemmas.Bool.Decides.{nat_tests}
use Rattle.std.specs.Option.{IfSome}
use Rattle.std.proofs.lemmas.List.Elements.{All-nil, All-cons, All-head, All-tail, All-append, All-push}
use Rattle.sv_source.specs.declared.token.Token.{Token}
use Rattle.sv_macro.specs.Tokens.{name_of}
use Rattle.sv_macro.specs.Macros.{Macros, placed_count, placed}
use Rattle.sv_macro.specs.Brackets.{is_parenthesis, sign_of}
use Rattle.sv_macro.specs.Lists.{Taken, Place_in_list, at_end, closing, splitting, belonging, place_in, ended, with_item, with_split, taken, survey, fits}
use Rattle.sv_macro.specs.declared.brackets.Bracket.{Bracket}
use Rattle.sv_macro.specs.declared.brackets.Bracket.TheVariants.{Round, Square, Curly}
use Rattle.sv_macro.specs.declared.brackets.Sign.{Sign}
use Rattle.sv_macro.specs.declared.brackets.Sign.TheVariants.{Opens, Closes, ClosesStar, Comma, Other}
use Rattle.sv_macro.specs.declared.macros.Macro.{Macro}
use Rattle.sv_macro.specs.declared.coming.Coming.{Coming}
use Rattle.sv_macro.specs.declared.coming.Coming.TheVariants.{UseEnd}
use Rattle.sv_preproc.specs.States as spec
use Rattle.sv_preproc.specs.States.{State, Step, spending_limit, broken, with_coming, next_any, behind_next}
use Rattle.sv_preproc.specs.Uses as uses
use Rattle.sv_preproc.specs.Machine as mach
use Rattle.sv_preproc.specs.Machine.{Machine, Move, machine, reading, is_open, plain, acted, given_to, in_brackets, outside_brackets}
use Rattle.sv_preproc.specs.declared.state.Call.{Call}
use Rattle.sv_preproc.proofs.KeptItems.{Steady, ItemKeeps, next_keeps}
use Rattle.sv_preproc.proofs.KeptBodies.{BodyKeeps, MacrosKeep, marked_keeps, placed_keeps}

-- it holds of the arguments of a call
pub record CallKeeps (K : Token → Type 0) (call : Call) : Type 0 where
  pub arguments : All (All K) call.arguments
  pub argument : All K call.argument

-- it holds of all tokens, and no more were delivered than spent
pub record Holds (K : Token → Type 0) (coming : List Coming) (macros : Macros) (delivered : List Token) (spent : ℕ) : Type 0 where
  pub comes : All (ItemKeeps K) coming
  pub stands : MacrosKeep K macros
  pub gives : All K delivered
  pub few : length delivered ≤ spent
  pub within : spent ≤ 2 ^ 22

abbrev pub StateKeeps : (Token → Type 0) → State → Type 0
StateKeeps K s = Holds K s.coming s.macros s.delivered s.spent

pub record MachineKeeps (K : Token → Type 0) (m : Machine) : Type 0 where
  pub state : StateKeeps K m.state
  pub collects : All (CallKeeps K) m.calls

-- of a step, and of a token that it gives
abbrev pub StepKeeps : (Token → Type 0) → Step → Type 0
StepKeeps K (spec.goes s) = StateKeeps K s
StepKeeps K (spec.gives t s) = StateKeeps K s × K t
StepKeeps K (spec.takes t s) = StateKeeps K s
StepKeeps K (spec.looks search s) = StateKeeps K s
StepKeeps K (spec.done s) = StateKeeps K s
StepKeeps K (spec.breaks r names) = Unit {0}

abbrev pub MoveKeeps : (Token → Type 0) → Move → Type 0
MoveKeeps K (mach.goes m) = MachineKeeps K m
MoveKeeps K (mach.looks search m) = MachineKeeps K m
MoveKeeps K (mach.done m) = StateKeeps K m.state
MoveKeeps K (mach.breaks r names) = Unit {0}

-- the same with other parts
module _ (K : Token → Type 0) (coming : List Coming) (macros : Macros) (delivered : List Token) (spent : ℕ) where
  pub with_rest : (rest : List Coming) → All (ItemKeeps K) rest → Holds K coming macros delivered spent → Holds K rest macros delivered spent
  with_rest rest all k = record { comes = all; stands = k.stands; gives = k.gives; few = k.few; within = k.within }

  pub with_macros : (others : Macros) → MacrosKeep K others → Holds K coming macros delivered spent → Holds K coming others delivered spent
  with_macros others all k = record { comes = k.comes; stands = all; gives = k.gives; few = k.few; within = k.within }

  pub with_spent : (more : ℕ) → spent ≤ more → more ≤ 2 ^ 22 → Holds K coming macros delivered spent → Holds K coming macros delivered more
  with_spent more up fits k = record { comes = k.comes; stands = k.stands; gives = k.gives; few = omega (arith, k.few, up); within = fits }

pub by_test : (K : Token → Type 0) (b : Bool) (x y : Step) → (b ≡ true → StepKeeps K x) → (b ≡ false → StepKeeps K y) → StepKeeps K (elim b [ true ↦ x | false ↦ y ])
by_test K true x y fx fy = fx refl
by_test K false x y fx fy = fy refl

module _ (K : Token → Type 0) (steady : Steady K) where
  abbrev Goes : Step → Type 0
  Goes st = StepKeeps K st

  -- the body of a macro comes next
  body_keeps : (s : State) (used : Token) (body : Option (List Coming)) (n : ℕ) → StateKeeps K s → s.spent + n ≤ 2 ^ 22 → IfSome body (All (ItemKeeps K)) → Goes (uses.with_body s used body n)
  body_keeps s used None n i fits all = tt
  body_keeps s used (Some items) n i fits all = record {
    comes = All-append (ItemKeeps K) items (UseEnd (name_of used) ∷ s.coming) all (All-cons (ItemKeeps K) (UseEnd (name_of used)) s.coming tt i.comes);
    stands = marked_keeps K s.macros (name_of used) true i.stands;
    gives = i.gives;
    few = omega (arith, i.few);
    within = fits;
  }

  macro_keeps : (s : State) (used : Token) (arguments : List (List Token)) (m : Option Macro) → StateKeeps K s → All (All K) arguments → IfSome m (BodyKeeps K) → Goes (uses.with_macro s used arguments m)
  macro_keeps s used arguments None i all body = tt
  macro_keeps s used arguments (Some m) i all body = by_test K (nat_lt spending_limit (s.spent + placed_count arguments m.parts)) _ _ (λ _. tt) (λ e.
      let fits : s.spent + placed_count arguments m.parts ≤ 2 ^ 22 = grind (arith, nat_tests) in
      body_keeps s used (placed used.place arguments m.parts) (placed_count arguments m.parts) i fits (placed_keeps K steady used.place arguments m.parts all body))

  expanded_keeps : (s : State) (used : Token) (arguments : List (List Token)) → StateKeeps K s → All (All K) arguments → Goes (uses.expanded s used arguments)
  expanded_keeps s used arguments i all = macro_keeps s used arguments (s.macros (name_of used)) i all (i.stands (name_of used))

  -- a token is taken behind newlines
  pub behind_next_keeps : (s : State) → StateKeeps K s → StateKeeps K (behind_next s)
  behind_next_keeps s i = with_rest K s.coming s.macros s.delivered s.spent _ (next_keeps K s.coming i.comes) i

  -- what comes behind a list
  list_place : (item : Coming) (rest : List Coming) (p : Place_in_list) → All (ItemKeeps K) (item ∷ rest) → All (ItemKeeps K) (taken [] rest).behind →
      ((more : List Bracket) → All (ItemKeeps K) (taken more rest).behind) → All (ItemKeeps K) (elim p as (λ _. Taken) [
        | at_end ↦ ended false (item ∷ rest)
        | closing ↦ ended true rest
        | splitting ↦ with_split (taken [] rest)
        | belonging more ↦ with_item item (taken more rest)
      ]).behind
  list_place item rest at_end all split again = all
  list_place item rest closing all split again = All-tail (ItemKeeps K) item rest all
  list_place item rest splitting all split again = split
  list_place item rest (belonging more) all split again = again more

  list_keeps : (open_brackets : List Bracket) (coming : List Coming) → All (ItemKeeps K) coming → All (ItemKeeps K) (taken open_brackets coming).behind
  list_keeps open_brackets [] all = all
  list_keeps open_brackets (item ∷ rest) all =
      list_place item rest (place_in open_brackets item) all (list_keeps [] rest (All-tail (ItemKeeps K) item rest all)) (λ more. list_keeps more rest (All-tail (ItemKeeps K) item rest all))

  -- a use
  counted_keeps : (s : State) (used : Token) (busy : Bool) (next : Step) → (s.spent + 1 ≤ 2 ^ 22 → Goes next) → Goes (uses.counted s used busy next)
  counted_keeps s used busy next f = by_test K busy _ _ (λ _. tt) (λ _. by_test K (nat_lt spending_limit (s.spent + 1)) _ _ (λ _. tt) (λ e. f (let fits : s.spent + 1 ≤ 2 ^ 22 = grind (arith, nat_tests) in fits)))

  once_keeps : (s : State) → StateKeeps K s → s.spent + 1 ≤ 2 ^ 22 → StateKeeps K (uses.once_more s)
  once_keeps s i fits = with_spent K s.coming s.macros s.delivered s.spent (s.spent + 1) (omega arith) fits i

  begins_keeps : (s : State) (used : Token) (arity : ℕ) → StateKeeps K s → Goes (uses.list_begins s used arity (taken [] s.coming).behind)
  begins_keeps s used zero i =
      expanded_keeps (with_coming s (taken [] s.coming).behind) used [] (with_rest K s.coming s.macros s.delivered s.spent _ (list_keeps [] s.coming i.comes) i) (All-nil (All K))
  begins_keeps s used (suc n) i = i

  closed_keeps : (s : State) (used : Token) (cut : Option Token) (closed : Bool) (next : Step) → Goes next →
      Goes (elim cut as (λ _. Step) [ Some t ↦ broken s 208 t | None ↦ elim closed as (λ _. Step) [ true ↦ next | false ↦ broken s 208 used ] ])
  closed_keeps s used (Some t) closed next f = tt
  closed_keeps s used None true next f = f
  closed_keeps s used None false next f = tt

  fitting_keeps : (s : State) (used : Token) (barred : Option Token) (wrong : Bool) (next : Step) → Goes next →
      Goes (elim barred as (λ _. Step) [ Some t ↦ broken s 201 t | None ↦ elim wrong as (λ _. Step) [ true ↦ broken s 203 used | false ↦ next ] ])
  fitting_keeps s used (Some t) wrong next f = tt
  fitting_keeps s used None true next f = tt
  fitting_keeps s used None false next f = f

  with_list_keeps : (s : State) (used : Token) (busy : Bool) (arity : ℕ) → StateKeeps K s → Goes (uses.with_list s used busy arity (taken [] s.coming))
  with_list_keeps s used busy arity i =
      let list = survey (taken [] s.coming) in
      fitting_keeps s used list.barred (list.closed && not (fits arity list)) _ (counted_keeps s used busy _ (λ more.
      closed_keeps s used list.cut list.closed _ (begins_keeps (uses.once_more s) used arity (once_keeps s i more))))

  list_from_keeps : (s : State) (used : Token) (busy : Bool) (arity : ℕ) (next : Option Token) → StateKeeps K s → Goes (uses.list_from s used busy arity next)
  list_from_keeps s used busy arity None i = tt
  list_from_keeps s used busy arity (Some t) i = by_test K (is_parenthesis t) _ _ (λ _. with_list_keeps s used busy arity i) (λ _. tt)

  use_of_keeps : (s : State) (used : Token) (busy : Bool) (arity : Option ℕ) → StateKeeps K s → Goes (uses.use_of s used busy arity)
  use_of_keeps s used busy None i = counted_keeps s used busy _ (λ more. expanded_keeps (uses.once_more s) used [] (once_keeps s i more) (All-nil (All K)))
  use_of_keeps s used busy (Some arity) i = list_from_keeps (behind_next s) used busy arity (next_any s) (behind_next_keeps s i)

  used_keeps : (s : State) (used : Token) (m : Option Macro) → StateKeeps K s → Goes (uses.used_macro s used m)
  used_keeps s used None i = tt
  used_keeps s used (Some m) i = use_of_keeps s used m.busy m.arity i

  pub use_begins_keeps : (s : State) (used : Token) → StateKeeps K s → Goes (uses.use_begins s used)
  use_begins_keeps s used i = used_keeps s used (s.macros (name_of used)) i

  -- what comes of a step without a call
  pub plain_keeps : (calls : List Call) (st : Step) → All (CallKeeps K) calls → StepKeeps K st → MoveKeeps K (plain calls st)
  plain_keeps calls (spec.goes s) all k = record { state = k; collects = all }
  plain_keeps calls (spec.gives t s) all k = record { state = k.0; collects = all }
  plain_keeps calls (spec.takes t s) all k = record { state = k; collects = all }
  plain_keeps calls (spec.looks search s) all k = record { state = k; collects = all }
  plain_keeps calls (spec.done s) all k = k
  plain_keeps calls (spec.breaks r names) all k = tt

  delivered_keeps : (s : State) (t : Token) → StateKeeps K s → K t → Goes (uses.delivered s t)
  delivered_keeps s t i k = by_test K (nat_lt spending_limit (s.spent + 1)) _ _ (λ _. tt) (λ e. record {
    comes = i.comes;
    stands = i.stands;
    gives = All-push K s.delivered t i.gives k;
    few = omega (arith, i.few, length-append s.delivered (t ∷ []));
    within = (let fits : s.spent + 1 ≤ 2 ^ 22 = grind (arith, nat_tests) in fits);
  })

  -- a call goes on
  goes_on_keeps : (s : State) (call : Call) (rest : List Call) → StateKeeps K s → CallKeeps K call → All (CallKeeps K) rest → MachineKeeps K (reading s (call ∷ rest))
  goes_on_keeps s call rest i k all = record { state = record { comes = i.comes; stands = i.stands; gives = i.gives; few = i.few; within = i.within }; collects = All-cons (CallKeeps K) call rest k all }

  one_longer : (call : Call) (t : Token) → CallKeeps K call → K t → All K (call.argument ++ t ∷ [])
  one_longer call t k kt = All-push K call.argument t k.argument kt

  complete_keeps : (s : State) (call : Call) (rest : List Call) → StateKeeps K s → CallKeeps K call → All (CallKeeps K) rest → MoveKeeps K (mach.call_complete s call rest)
  complete_keeps s call rest i k all = plain_keeps rest _ all
      (expanded_keeps (record s { inside = is_open rest }) call.used (call.arguments ++ call.argument ∷ []) (record { comes = i.comes; stands = i.stands; gives = i.gives; few = i.few; within = i.within })
      (All-push (All K) call.arguments call.argument k.arguments k.argument))

  outside_keeps : (s : State) (call : Call) (rest : List Call) (t : Token) (sign : Sign) → StateKeeps K s → CallKeeps K call → All (CallKeeps K) rest → K t → MoveKeeps K (outside_brackets s call rest t sign)
  outside_keeps s call rest t Comma i k all kt = goes_on_keeps s _ rest i (record { arguments = All-push (All K) call.arguments call.argument k.arguments k.argument; argument = All-nil K }) all
  outside_keeps s call rest t (Closes Round) i k all kt = complete_keeps s call rest i k all
  outside_keeps s call rest t (Closes Square) i k all kt = goes_on_keeps s _ rest i (record { arguments = k.arguments; argument = one_longer call t k kt }) all
  outside_keeps s call rest t (Closes Curly) i k all kt = goes_on_keeps s _ rest i (record { arguments = k.arguments; argument = one_longer call t k kt }) all
  outside_keeps s call rest t (Opens b) i k all kt = goes_on_keeps s _ rest i (record { arguments = k.arguments; argument = one_longer call t k kt }) all
  outside_keeps s call rest t ClosesStar i k all kt = goes_on_keeps s _ rest i (record { arguments = k.arguments; argument = one_longer call t k kt }) all
  outside_keeps s call rest t Other i k all kt = goes_on_keeps s _ rest i (record { arguments = k.arguments; argument = one_longer call t k kt }) all

  brackets_keep : (s : State) (call : Call) (rest : List Call) (t : Token) (brackets : List Bracket) → StateKeeps K s → CallKeeps K call → All (CallKeeps K) rest → K t → MoveKeeps K (in_brackets s call rest t brackets)
  brackets_keep s call rest t [] i k all kt = outside_keeps s call rest t (sign_of t) i k all kt
  brackets_keep s call rest t (b ∷ bs) i k all kt = goes_on_keeps s _ rest i (record { arguments = k.arguments; argument = one_longer call t k kt }) all

  by_level : (level : Bool) (x y : Move) → MoveKeeps K x → MoveKeeps K y → MoveKeeps K (elim level as (λ _. Move) [ true ↦ x | false ↦ y ])
  by_level true x y p q = p
  by_level false x y p q = q

  given_keeps : (s : State) (t : Token) (calls : List Call) → StateKeeps K s → All (CallKeeps K) calls → K t → MoveKeeps K (given_to s t calls)
  given_keeps s t [] i all k = plain_keeps [] _ all (delivered_keeps s t i k)
  given_keeps s t (call ∷ rest) i all kt =
      let here = All-head (CallKeeps K) call rest all in
      let below = All-tail (CallKeeps K) call rest all in
      by_level (call.level == s.uses) _ _ (brackets_keep s call rest t call.brackets i here below kt) (goes_on_keeps s _ rest i (record { arguments = here.arguments; argument = one_longer call t here kt }) below)

  pub acted_keeps : (calls : List Call) (st : Step) → All (CallKeeps K) calls → StepKeeps K st → MoveKeeps K (acted calls st)
  acted_keeps calls (spec.goes s) all k = record { state = k; collects = all }
  acted_keeps calls (spec.gives t s) all k = given_keeps s t calls k.0 all k.1
  acted_keeps calls (spec.takes t s) all k = goes_on_keeps s _ calls k (record { arguments = All-nil (All K); argument = All-nil K }) all
  acted_keeps calls (spec.looks search s) all k = record { state = k; collects = all }
  acted_keeps calls (spec.done s) all k = k
  acted_keeps calls (spec.breaks r names) all k = tt
