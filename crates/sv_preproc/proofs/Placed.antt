-- Every place that an expansion hands out is one of a loaded file.
use Rattle.std.proofs.Common.{◌≡◌, ℕ, ◌+◌, ◌<◌, ◌≤◌, Bool, true, false, cond, List, [], ◌∷◌, ◌++◌, length, map, Option, Some, None, All, sym, subst, arith, length-append}
use Rattle.std.proofs.lemmas.List.Elements.{All-nil, All-cons, All-append, All-map, All-push, All-same, All-weaker}
use Rattle.sv_source.specs.Loading.{Contents}
use Rattle.sv_source.specs.declared.token.Place.{Place}
use Rattle.sv_source.specs.declared.token.Token.{Token}
use Rattle.sv_source.specs.declared.refusal.Refusal.{Refusal}
use Rattle.sv_lexer.specs.Lexing.{tokens_of}
use Rattle.sv_macro.specs.Including.{Held}
use Rattle.sv_macro.specs.declared.coming.Coming.{Coming}
use Rattle.sv_macro.specs.declared.coming.Coming.TheVariants.{Raw, Kept, FileEnd, UseEnd}
use Rattle.sv_preproc.specs.States.{State}
use Rattle.sv_preproc.specs.Expansion.{head_place}
use Rattle.sv_preproc.specs.Runs.{expands, refused, start, end_token, Comes}
use Rattle.sv_preproc.specs.Searches.{Ending, finished, stopped, opened}
use Rattle.sv_preproc.specs.Machine.{machine, Runs}
use Rattle.std.specs.Option.{IfSome}
use Rattle.sv_preproc.specs.declared.settings.Settings.{Settings}
use Rattle.sv_preproc.specs.declared.state.OpenFile.{OpenFile}
use Rattle.sv_preproc.specs.declared.state.Call.{Call}
use Rattle.sv_preproc.proofs.Through.{EndingTells, through}
use Rattle.sv_preproc.proofs.KeptItems.{ItemKeeps}
use Rattle.sv_preproc.proofs.PlacedTokens.{InFile, behind_bytes-file, tokens_of-file}
use Rattle.sv_preproc.proofs.PlacedStates.{In, FirstIn, FileIn, UsedIn, Stand, Placed, Waits, placing}
use Rattle.sv_preproc.proofs.PlacedSteps.{move_placed}

-- with more files
module _ (n m : ℕ) (up : n ≤ m) where
  item_up : (item : Coming) → ItemKeeps (In n) item → ItemKeeps (In m) item
  item_up (Raw t) k = omega (arith, k, up)
  item_up (Kept t) k = omega (arith, k, up)
  item_up FileEnd k = tt
  item_up (UseEnd name) k = tt

  file_up : (file : OpenFile) → FileIn n file → FileIn m file
  file_up file all = All-weaker (FirstIn n) (FirstIn m) (λ c k. omega (arith, k, up)) file.conditionals all

  stand_up : (coming : List Coming) (files : List OpenFile) (delivered : List Token) (next : ℕ) (ending : Place) →
      Stand n coming files delivered next ending → Stand m coming files delivered next ending
  stand_up coming files delivered next ending i = record {
    comes = All-weaker (ItemKeeps (In n)) (ItemKeeps (In m)) item_up coming i.comes;
    opens = All-weaker (FileIn n) (FileIn m) file_up files i.opens;
    gives = All-weaker (In n) (In m) (λ t k. omega (arith, k, up)) delivered i.gives;
    ends = λ l. omega (arith, i.ends l, up);
  }

  -- a file is opened
  stand_opened : (coming : List Coming) (files : List OpenFile) (delivered : List Token) (next : ℕ) (ending : Place) (file : ℕ) (held : Held) → file < m →
      Stand n coming files delivered next ending →
      Stand m (map Raw (tokens_of file held.bytes) ++ FileEnd ∷ coming) ((record { path = held.path; conditionals = [] }) ∷ files) delivered next ending
  stand_opened coming files delivered next ending file held l i =
      let more = stand_up coming files delivered next ending i in
      record {
        comes = All-append (ItemKeeps (In m)) (map Raw (tokens_of file held.bytes)) (FileEnd ∷ coming)
            (All-map (ItemKeeps (In m)) Raw (tokens_of file held.bytes) (All-weaker (InFile file) (In m) (λ t e. omega (arith, e, l)) (tokens_of file held.bytes) (tokens_of-file file held.bytes)))
            (All-cons (ItemKeeps (In m)) FileEnd coming tt more.comes);
        opens = All-cons (FileIn m) (record { path = held.path; conditionals = [] }) files (All-nil (FirstIn m)) more.opens;
        gives = more.gives;
        ends = more.ends;
      }

one_more_name : (names : List (List ℕ)) (name : List ℕ) → length (names ++ name ∷ []) ≡ length names + 1
one_more_name names name = omega (arith, length-append names (name ∷ []))

opened_placed : (top : Bool) (place : Place) (s : State) (held : Held) → Waits top place s → Placed (opened top s held)
opened_placed true place s held w =
    let long = one_more_name s.names held.path in
    let more = stand_opened (length s.names) (length (s.names ++ held.path ∷ [])) (omega (arith, long)) s.coming s.files s.delivered 0 s.ending (length s.names) held (omega (arith, long)) w.0 in
    record { comes = more.comes; opens = more.opens; gives = more.gives; ends = λ l. omega (arith, long, behind_bytes-file (head_place s) held.bytes) }
opened_placed false place s held w =
    let long = one_more_name s.names held.path in
    stand_opened (length s.names) (length (s.names ++ held.path ∷ [])) (omega (arith, long)) s.coming s.files s.delivered s.next s.ending (length s.names) held (omega (arith, long)) w.0

-- a file that is wanted is absent or too long
lost_placed : (top : Bool) (place : Place) (word : List ℕ) (s : State) → Waits top place s → place.file < length (cond {A = List (List ℕ)} top (s.names ++ word ∷ []) s.names)
lost_placed true place word s w = omega (arith, w.1, one_more_name s.names word)
lost_placed false place word s w = w.1

-- or files nest too deep
deep_placed : (names : List (List ℕ)) (deep : Option Token) (t : Token) → deep ≡ Some t → IfSome deep (In (length names)) → t.place.file < length names
deep_placed names None t e k = absurd (let no : None ≡ Some t = e in cc)
deep_placed names (Some u) t e k = (let same : u ≡ t = cc in subst (In (length names)) same k)

reads_up : (s : State) (held : Held) (calls : List Call) → All (UsedIn (length s.names)) calls → All (UsedIn (length (s.names ++ held.path ∷ []))) calls
reads_up s held calls all = All-weaker (UsedIn (length s.names)) (UsedIn (length (s.names ++ held.path ∷ []))) (λ call k. omega (arith, k, one_more_name s.names held.path)) calls all

start_placed : (set : Settings) → Placed (start set)
start_placed set = record { comes = All-nil _; opens = All-nil _; gives = All-nil _; ends = λ l. absurd (omega (arith, l)) }

ending-placed : (set : Settings) (told : Option Contents) (e : Ending) → Runs set told (machine (start set) []) e → EndingTells (placing (length set.files)) e
ending-placed set told e c =
    through (placing (length set.files)) (λ search m held w. (opened_placed search.top search.place m.state held w.0.0, reads_up m.state held m.calls w.1)) (λ rule search m w. lost_placed search.top search.place search.word m.state w.0.0)
    (λ search m t f w. deep_placed m.state.names search.deep t f w.0.1) set told (λ m k. move_placed set m k.0 k.1) (machine (start set) []) e c (start_placed set, All-nil _)

pub refusal-placed : (set : Settings) (told : Option Contents) (r : Refusal) (names : List (List ℕ)) → Comes set told (refused r names) → r.place.file < length names
refusal-placed set told r names c = ending-placed set told (stopped r names) c

pub tokens-placed : (set : Settings) (told : Option Contents) (ts : List Token) (names : List (List ℕ)) → 1 ≤ length set.files → Comes set told (expands ts names) →
    All (λ t. t.place.file < length names) ts
tokens-placed set told ts names some c =
    let f = ending-placed set told (finished c.last) c.runs in
    let ends : c.last.ending.file < length c.last.names = f.0.ends (omega (arith, some, f.1)) in
    let all : All (In (length c.last.names)) ts = All-same (In (length c.last.names)) ts (c.last.delivered ++ end_token c.last.ending ∷ []) c.tokens
    (All-push (In (length c.last.names)) c.last.delivered (end_token c.last.ending) f.0.gives ends) in
    subst (λ names. All (In (length names)) ts) (sym c.files) all
