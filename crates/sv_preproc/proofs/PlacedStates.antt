-- The places of an expansion's tokens are those of loaded files: in a state, and behind a token that is given on.
use Rattle.std.proofs.Common.{◌≡◌, ℕ, zero, suc, ◌+◌, ◌<◌, ◌≤◌, ◌==◌, ◌&&◌, not, nat_lt, Bool, true, false, cond, List, [], ◌∷◌, ◌++◌, length, Option, Some, None, All, refl, sym, subst}
use Rattle.std.specs.Option.{IfSome}
use Rattle.std.proofs.lemmas.List.Elements.{All-nil, All-cons, All-head, All-tail, All-append, All-push, All-weaker}
use Rattle.sv_source.specs.declared.token.Place.{Place}
use Rattle.sv_source.specs.declared.token.Token.{Token}
use Rattle.sv_macro.specs.Tokens.{name_of}
use Rattle.sv_macro.specs.Macros.{placed_count, placed}
use Rattle.sv_macro.specs.Brackets.{is_parenthesis, sign_of}
use Rattle.sv_macro.specs.Lists.{Taken, Place_in_list, at_end, closing, splitting, belonging, place_in, ended, first_longer, with_item, with_split, taken, is_barred, is_cut, first_in, first_of, or_else, survey, fits}
use Rattle.sv_macro.specs.declared.brackets.Bracket.{Bracket}
use Rattle.sv_macro.specs.declared.brackets.Bracket.TheVariants.{Round, Square, Curly}
use Rattle.sv_macro.specs.declared.brackets.Sign.{Sign}
use Rattle.sv_macro.specs.declared.brackets.Sign.TheVariants.{Opens, Closes, ClosesStar, Comma, Other}
use Rattle.sv_macro.specs.declared.macros.Part.{Part}
use Rattle.sv_macro.specs.declared.macros.Part.TheVariants.{Plain, Formal, Join}
use Rattle.sv_macro.specs.declared.macros.Macro.{Macro}
use Rattle.sv_macro.specs.declared.coming.Coming.{Coming}
use Rattle.sv_macro.specs.declared.coming.Coming.TheVariants.{Raw, Kept, FileEnd, UseEnd}
use Rattle.sv_preproc.specs.States as spec
use Rattle.sv_preproc.specs.States.{State, Step, spending_limit, broken, with_coming, next_any, behind_next}
use Rattle.sv_preproc.specs.Uses as uses
use Rattle.sv_preproc.specs.Machine as mach
use Rattle.sv_preproc.specs.Machine.{Machine, Move, reading, is_open, plain, acted, given_to, in_brackets, outside_brackets}
use Rattle.sv_preproc.specs.declared.state.Conditional.{Conditional}
use Rattle.sv_preproc.specs.declared.state.OpenFile.{OpenFile}
use Rattle.sv_preproc.specs.declared.state.Call.{Call}
use Rattle.sv_preproc.specs.declared.turn.Search.{Search}
use Rattle.sv_preproc.proofs.Through.{Keeps, MoveTells}
use Rattle.sv_preproc.proofs.KeptItems.{ItemKeeps, next_keeps}
use Rattle.sv_preproc.proofs.KeptBodies.{PartKeeps, placed_at_keeps}

-- the token stands in one of so many files
abbrev pub In : ℕ → Token → Type 0
In n t = t.place.file < n

abbrev pub FirstIn : ℕ → Conditional → Type 0
FirstIn n c = In n c.first

abbrev pub FileIn : ℕ → OpenFile → Type 0
FileIn n file = All (FirstIn n) file.conditionals

abbrev pub UsedIn : ℕ → Call → Type 0
UsedIn n call = In n call.used

-- so do all tokens that may be delivered or named by a refusal, and the end where a file was looked for
pub record Stand (n : ℕ) (coming : List Coming) (files : List OpenFile) (delivered : List Token) (next : ℕ) (ending : Place) : Type 0 where
  pub comes : All (ItemKeeps (In n)) coming
  pub opens : All (FileIn n) files
  pub gives : All (In n) delivered
  pub ends : 1 ≤ next → ending.file < n

abbrev pub Placed : State → Type 0
Placed s = Stand (length s.names) s.coming s.files s.delivered s.next s.ending

abbrev pub Reads : Machine → Type 0
Reads m = All (UsedIn (length m.state.names)) m.calls

-- while a file of the command line is looked for nothing is known of the end
abbrev pub Waits : Bool → Place → State → Type 0
Waits true place s = Stand (length s.names) s.coming s.files s.delivered 0 s.ending × (place.file ≤ length s.names)
Waits false place s = Placed s × (place.file < length s.names)

abbrev pub Searches : Search → State → Type 0
Searches search s = Waits search.top search.place s × IfSome search.deep (In (length s.names))

abbrev pub placing : ℕ → Keeps
placing count = record {
  going = λ m. Placed m.state × Reads m;
  waiting = λ search m. Searches search m.state × Reads m;
  finished = λ s. Placed s × (count ≤ s.next);
  broken = λ r names. r.place.file < length names;
}

-- of a step, whose names are those of the state
abbrev pub StepTells : ℕ → List (List ℕ) → Step → Type 0
StepTells count names (spec.goes s) = Placed s × (s.names ≡ names)
StepTells count names (spec.gives t s) = Placed s × (s.names ≡ names) × In (length s.names) t
StepTells count names (spec.takes t s) = Placed s × (s.names ≡ names) × In (length s.names) t
StepTells count names (spec.looks search s) = Searches search s × (s.names ≡ names)
StepTells count names (spec.done s) = Placed s × (count ≤ s.next)
StepTells count names (spec.breaks r others) = r.place.file < length others

-- the same with other parts
pub with_rest : (s : State) (rest : List Coming) → All (ItemKeeps (In (length s.names))) rest → Placed s → Placed (with_coming s rest)
with_rest s rest all i = record { comes = all; opens = i.opens; gives = i.gives; ends = i.ends }

pub with_files : (s : State) (files : List OpenFile) → All (FileIn (length s.names)) files → Placed s → Placed (record s { files = files })
with_files s files all i = record { comes = i.comes; opens = all; gives = i.gives; ends = i.ends }

-- a token is taken behind newlines
pub behind_next_placed : (s : State) → Placed s → Placed (behind_next s)
behind_next_placed s i = with_rest s _ (next_keeps (In (length s.names)) s.coming i.comes) i

-- every token of a body is moved to the place of the use
abbrev AnyToken : Token → Type 0
AnyToken t = Unit {0}

any_part : (part : Part) → PartKeeps AnyToken part
any_part (Plain t) = tt
any_part (Formal i) = tt
any_part Join = tt

body_placed : (n : ℕ) (place : Place) (arguments : List (List Token)) (parts : List Part) → place.file < n → IfSome (placed place arguments parts) (All (ItemKeeps (In n)))
body_placed n place arguments parts p =
    placed_at_keeps AnyToken (In n) place (λ t a. p) (λ text i t l. tt) arguments parts (λ i a l k t m. tt)
    (All-weaker (λ part. Unit {0}) (PartKeeps AnyToken) (λ part u. any_part part) parts (λ i part l. tt))

module _ (count : ℕ) where
  abbrev pub Tells : State → Step → Type 0
  Tells s st = StepTells count s.names st

  pub by_test : (s : State) (b : Bool) (x y : Step) → Tells s x → Tells s y → Tells s (elim b [ true ↦ x | false ↦ y ])
  by_test s true x y p q = p
  by_test s false x y p q = q

  delivered_placed : (s : State) (t : Token) → Placed s → In (length s.names) t → Tells s (uses.delivered s t)
  delivered_placed s t i k = by_test s (nat_lt spending_limit (s.spent + 1)) _ _ k
      (record { comes = i.comes; opens = i.opens; gives = All-push (In (length s.names)) s.delivered t i.gives k; ends = i.ends }, refl)

  -- the body of a macro comes next
  with_body_placed : (s : State) (used : Token) (body : Option (List Coming)) (n : ℕ) → Placed s → In (length s.names) used → IfSome body (All (ItemKeeps (In (length s.names)))) → Tells s (uses.with_body s used body n)
  with_body_placed s used None n i u all = u
  with_body_placed s used (Some items) n i u all =
      (with_rest s _ (All-append (ItemKeeps (In (length s.names))) items (UseEnd (name_of used) ∷ s.coming) all (All-cons (ItemKeeps (In (length s.names))) (UseEnd (name_of used)) s.coming tt i.comes)) i, refl)

  macro_placed : (s : State) (used : Token) (arguments : List (List Token)) (m : Option Macro) → Placed s → In (length s.names) used → Tells s (uses.with_macro s used arguments m)
  macro_placed s used arguments None i u = u
  macro_placed s used arguments (Some m) i u = by_test s (nat_lt spending_limit (s.spent + placed_count arguments m.parts)) _ _ u
      (with_body_placed s used (placed used.place arguments m.parts) (placed_count arguments m.parts) i u (body_placed (length s.names) used.place arguments m.parts u))

  expanded_placed : (s : State) (used : Token) (arguments : List (List Token)) → Placed s → In (length s.names) used → Tells s (uses.expanded s used arguments)
  expanded_placed s used arguments i u = macro_placed s used arguments (s.macros (name_of used)) i u

  -- what comes behind a list, and the tokens in it
  list_place : (n : ℕ) (item : Coming) (rest : List Coming) (p : Place_in_list) → All (ItemKeeps (In n)) (item ∷ rest) → All (ItemKeeps (In n)) (taken [] rest).behind →
      ((more : List Bracket) → All (ItemKeeps (In n)) (taken more rest).behind) → All (ItemKeeps (In n)) (elim p as (λ _. Taken) [
        | at_end ↦ ended false (item ∷ rest)
        | closing ↦ ended true rest
        | splitting ↦ with_split (taken [] rest)
        | belonging more ↦ with_item item (taken more rest)
      ]).behind
  list_place n item rest at_end all split again = all
  list_place n item rest closing all split again = All-tail (ItemKeeps (In n)) item rest all
  list_place n item rest splitting all split again = split
  list_place n item rest (belonging more) all split again = again more

  list_placed : (n : ℕ) (open_brackets : List Bracket) (coming : List Coming) → All (ItemKeeps (In n)) coming → All (ItemKeeps (In n)) (taken open_brackets coming).behind
  list_placed n open_brackets [] all = all
  list_placed n open_brackets (item ∷ rest) all =
      list_place n item rest (place_in open_brackets item) all (list_placed n [] rest (All-tail (ItemKeeps (In n)) item rest all)) (λ more. list_placed n more rest (All-tail (ItemKeeps (In n)) item rest all))

  ended_items : (n : ℕ) → All (All (ItemKeeps (In n))) ([] ∷ [])
  ended_items n = All-cons (All (ItemKeeps (In n))) [] [] (All-nil (ItemKeeps (In n))) (All-nil (All (ItemKeeps (In n))))

  longer_items : (n : ℕ) (item : Coming) (arguments : List (List Coming)) → ItemKeeps (In n) item → All (All (ItemKeeps (In n))) arguments → All (All (ItemKeeps (In n))) (first_longer item arguments)
  longer_items n item [] k all = All-cons (All (ItemKeeps (In n))) (item ∷ []) [] (All-cons (ItemKeeps (In n)) item [] k (All-nil (ItemKeeps (In n)))) all
  longer_items n item (a ∷ rest) k all =
      All-cons (All (ItemKeeps (In n))) (item ∷ a) rest (All-cons (ItemKeeps (In n)) item a k (All-head (All (ItemKeeps (In n))) a rest all)) (All-tail (All (ItemKeeps (In n))) a rest all)

  items_place : (n : ℕ) (item : Coming) (rest : List Coming) (p : Place_in_list) → ItemKeeps (In n) item → All (All (ItemKeeps (In n))) (taken [] rest).arguments →
      ((more : List Bracket) → All (All (ItemKeeps (In n))) (taken more rest).arguments) → All (All (ItemKeeps (In n))) (elim p as (λ _. Taken) [
        | at_end ↦ ended false (item ∷ rest)
        | closing ↦ ended true rest
        | splitting ↦ with_split (taken [] rest)
        | belonging more ↦ with_item item (taken more rest)
      ]).arguments
  items_place n item rest at_end k split again = ended_items n
  items_place n item rest closing k split again = ended_items n
  items_place n item rest splitting k split again = All-cons (All (ItemKeeps (In n))) [] (taken [] rest).arguments (All-nil (ItemKeeps (In n))) split
  items_place n item rest (belonging more) k split again = longer_items n item (taken more rest).arguments k (again more)

  items_placed : (n : ℕ) (open_brackets : List Bracket) (coming : List Coming) → All (ItemKeeps (In n)) coming → All (All (ItemKeeps (In n))) (taken open_brackets coming).arguments
  items_placed n open_brackets [] all = ended_items n
  items_placed n open_brackets (item ∷ rest) all =
      items_place n item rest (place_in open_brackets item) (All-head (ItemKeeps (In n)) item rest all) (items_placed n [] rest (All-tail (ItemKeeps (In n)) item rest all)) (λ more. items_placed n more rest (All-tail (ItemKeeps (In n)) item rest all))

  found_by : (n : ℕ) (test : Bool) (t : Token) (o : Option Token) → In n t → IfSome o (In n) → IfSome (cond {A = Option Token} test (Some t) o) (In n)
  found_by n true t o k l = k
  found_by n false t o k l = l

  first_in_placed : (n : ℕ) (test : Token → Bool) (items : List Coming) → All (ItemKeeps (In n)) items → IfSome (first_in test items) (In n)
  first_in_placed n test [] all = tt
  first_in_placed n test (Raw t ∷ items) all = found_by n (test t) t (first_in test items) (All-head (ItemKeeps (In n)) (Raw t) items all) (first_in_placed n test items (All-tail (ItemKeeps (In n)) (Raw t) items all))
  first_in_placed n test (Kept t ∷ items) all = first_in_placed n test items (All-tail (ItemKeeps (In n)) (Kept t) items all)
  first_in_placed n test (FileEnd ∷ items) all = first_in_placed n test items (All-tail (ItemKeeps (In n)) FileEnd items all)
  first_in_placed n test (UseEnd name ∷ items) all = first_in_placed n test items (All-tail (ItemKeeps (In n)) (UseEnd name) items all)

  or_placed : (n : ℕ) (o p : Option Token) → IfSome o (In n) → IfSome p (In n) → IfSome (or_else o p) (In n)
  or_placed n None p k l = l
  or_placed n (Some t) p k l = k

  first_of_placed : (n : ℕ) (test : Token → Bool) (arguments : List (List Coming)) → All (All (ItemKeeps (In n))) arguments → IfSome (first_of test arguments) (In n)
  first_of_placed n test [] all = tt
  first_of_placed n test (a ∷ rest) all =
      or_placed n (first_in test a) (first_of test rest) (first_in_placed n test a (All-head (All (ItemKeeps (In n))) a rest all)) (first_of_placed n test rest (All-tail (All (ItemKeeps (In n))) a rest all))

  -- a use
  counted_placed : (s : State) (used : Token) (busy : Bool) (next : Step) → In (length s.names) used → Tells s next → Tells s (uses.counted s used busy next)
  counted_placed s used busy next u f = by_test s busy _ _ u (by_test s (nat_lt spending_limit (s.spent + 1)) _ _ u f)

  begins_placed : (s : State) (used : Token) (arity : ℕ) → Placed s → In (length s.names) used → Tells s (uses.list_begins s used arity (taken [] s.coming).behind)
  begins_placed s used zero i u = expanded_placed (with_coming s (taken [] s.coming).behind) used [] (with_rest s _ (list_placed (length s.names) [] s.coming i.comes) i) u
  begins_placed s used (suc n) i u = (i, refl, u)

  closed_placed : (s : State) (used : Token) (cut : Option Token) (closed : Bool) (next : Step) → In (length s.names) used → IfSome cut (In (length s.names)) → Tells s next →
      Tells s (elim cut as (λ _. Step) [ Some t ↦ broken s 208 t | None ↦ elim closed as (λ _. Step) [ true ↦ next | false ↦ broken s 208 used ] ])
  closed_placed s used (Some t) closed next u k f = k
  closed_placed s used None true next u k f = f
  closed_placed s used None false next u k f = u

  fitting_placed : (s : State) (used : Token) (barred : Option Token) (wrong : Bool) (next : Step) → In (length s.names) used → IfSome barred (In (length s.names)) → Tells s next →
      Tells s (elim barred as (λ _. Step) [ Some t ↦ broken s 201 t | None ↦ elim wrong as (λ _. Step) [ true ↦ broken s 203 used | false ↦ next ] ])
  fitting_placed s used (Some t) wrong next u k f = k
  fitting_placed s used None true next u k f = u
  fitting_placed s used None false next u k f = f

  with_list_placed : (s : State) (used : Token) (busy : Bool) (arity : ℕ) → Placed s → In (length s.names) used → Tells s (uses.with_list s used busy arity (taken [] s.coming))
  with_list_placed s used busy arity i u =
      let list = survey (taken [] s.coming) in
      let items = items_placed (length s.names) [] s.coming i.comes in
      fitting_placed s used list.barred (list.closed && not (fits arity list)) _ u (first_of_placed (length s.names) is_barred (taken [] s.coming).arguments items) (counted_placed s used busy _ u
      (closed_placed s used list.cut list.closed _ u (first_of_placed (length s.names) is_cut (taken [] s.coming).arguments items) (begins_placed (uses.once_more s) used arity i u)))

  list_from_placed : (s : State) (used : Token) (busy : Bool) (arity : ℕ) (next : Option Token) → Placed s → In (length s.names) used → Tells s (uses.list_from s used busy arity next)
  list_from_placed s used busy arity None i u = u
  list_from_placed s used busy arity (Some t) i u = by_test s (is_parenthesis t) _ _ (with_list_placed s used busy arity i u) u

  use_of_placed : (s : State) (used : Token) (busy : Bool) (arity : Option ℕ) → Placed s → In (length s.names) used → Tells s (uses.use_of s used busy arity)
  use_of_placed s used busy None i u = counted_placed s used busy _ u (expanded_placed (uses.once_more s) used [] i u)
  use_of_placed s used busy (Some arity) i u = list_from_placed (behind_next s) used busy arity (next_any s) (behind_next_placed s i) u

  used_placed : (s : State) (used : Token) (m : Option Macro) → Placed s → In (length s.names) used → Tells s (uses.used_macro s used m)
  used_placed s used None i u = u
  used_placed s used (Some m) i u = use_of_placed s used m.busy m.arity i u

  pub use_begins_placed : (s : State) (used : Token) → Placed s → In (length s.names) used → Tells s (uses.use_begins s used)
  use_begins_placed s used i u = used_placed s used (s.macros (name_of used)) i u

  -- what a move says
  abbrev pub Moves : Move → Type 0
  Moves = MoveTells (placing count)

  same_reads : (calls : List Call) (names others : List (List ℕ)) → others ≡ names → All (UsedIn (length names)) calls → All (UsedIn (length others)) calls
  same_reads calls names others e all = subst (λ (ns : List (List ℕ)). All (UsedIn (length ns)) calls) (sym e) all

  pub plain_placed : (names : List (List ℕ)) (calls : List Call) (st : Step) → All (UsedIn (length names)) calls → StepTells count names st → Moves (plain calls st)
  plain_placed names calls (spec.goes s) all k = (k.0, same_reads calls names s.names k.1 all)
  plain_placed names calls (spec.gives t s) all k = (k.0, same_reads calls names s.names k.1 all)
  plain_placed names calls (spec.takes t s) all k = (k.0, same_reads calls names s.names k.1 all)
  plain_placed names calls (spec.looks search s) all k = (k.0, same_reads calls names s.names k.1 all)
  plain_placed names calls (spec.done s) all k = k
  plain_placed names calls (spec.breaks r others) all k = k

  again : (s : State) (call : Call) (rest : List Call) → Placed s → UsedIn (length s.names) call → All (UsedIn (length s.names)) rest → Moves (mach.goes (reading s (call ∷ rest)))
  again s call rest i u all = (record { comes = i.comes; opens = i.opens; gives = i.gives; ends = i.ends }, All-cons (UsedIn (length s.names)) call rest u all)

  complete_placed : (s : State) (call : Call) (rest : List Call) → Placed s → UsedIn (length s.names) call → All (UsedIn (length s.names)) rest → Moves (mach.call_complete s call rest)
  complete_placed s call rest i u all = plain_placed s.names rest _ all (expanded_placed (record s { inside = is_open rest }) call.used (call.arguments ++ call.argument ∷ []) i u)

  outside_placed : (s : State) (call : Call) (rest : List Call) (t : Token) (sign : Sign) → Placed s → UsedIn (length s.names) call → All (UsedIn (length s.names)) rest → Moves (outside_brackets s call rest t sign)
  outside_placed s call rest t Comma i u all = again s _ rest i u all
  outside_placed s call rest t (Closes Round) i u all = complete_placed s call rest i u all
  outside_placed s call rest t (Closes Square) i u all = again s _ rest i u all
  outside_placed s call rest t (Closes Curly) i u all = again s _ rest i u all
  outside_placed s call rest t (Opens b) i u all = again s _ rest i u all
  outside_placed s call rest t ClosesStar i u all = again s _ rest i u all
  outside_placed s call rest t Other i u all = again s _ rest i u all

  brackets_placed : (s : State) (call : Call) (rest : List Call) (t : Token) (brackets : List Bracket) → Placed s → UsedIn (length s.names) call → All (UsedIn (length s.names)) rest → Moves (in_brackets s call rest t brackets)
  brackets_placed s call rest t [] i u all = outside_placed s call rest t (sign_of t) i u all
  brackets_placed s call rest t (b ∷ bs) i u all = again s _ rest i u all

  by_level : (level : Bool) (x y : Move) → Moves x → Moves y → Moves (elim level as (λ _. Move) [ true ↦ x | false ↦ y ])
  by_level true x y p q = p
  by_level false x y p q = q

  given_placed : (s : State) (t : Token) (calls : List Call) → Placed s → All (UsedIn (length s.names)) calls → In (length s.names) t → Moves (given_to s t calls)
  given_placed s t [] i all k = plain_placed s.names [] _ all (delivered_placed s t i k)
  given_placed s t (call ∷ rest) i all k =
      let here = All-head (UsedIn (length s.names)) call rest all in
      let below = All-tail (UsedIn (length s.names)) call rest all in
      by_level (call.level == s.uses) _ _ (brackets_placed s call rest t call.brackets i here below) (again s _ rest i here below)

  pub acted_placed : (names : List (List ℕ)) (calls : List Call) (st : Step) → All (UsedIn (length names)) calls → StepTells count names st → Moves (acted calls st)
  acted_placed names calls (spec.goes s) all k = (k.0, same_reads calls names s.names k.1 all)
  acted_placed names calls (spec.gives t s) all k = given_placed s t calls k.0 (same_reads calls names s.names k.1 all) k.2
  acted_placed names calls (spec.takes t s) all k = again s _ calls k.0 k.2 (same_reads calls names s.names k.1 all)
  acted_placed names calls (spec.looks search s) all k = (k.0, same_reads calls names s.names k.1 all)
  acted_placed names calls (spec.done s) all k = k
  acted_placed names calls (spec.breaks r others) all k = k
