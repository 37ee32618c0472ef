-- What an expansion delivers: tokens of which holds what holds of the tokens of every text, and no more than may be spent.
use Rattle.std.proofs.Common.{◌≡◌, ℕ, ◌+◌, ◌^◌, ◌≤◌, Bool, true, false, List, [], ◌∷◌, ◌++◌, length, fold, Option, None, All, ap, arith, length-append}
use Rattle.std.proofs.lemmas.List.Elements.{All-nil, All-head, All-tail, All-same}
use Rattle.std.proofs.lemmas.List.{same_from_push}
use Rattle.sv_source.specs.Loading.{Contents}
use Rattle.sv_source.specs.declared.token.Place.{Place}
use Rattle.sv_source.specs.declared.token.Token.{Token}
use Rattle.sv_lexer.specs.Lexing.{tokens_of}
use Rattle.sv_macro.specs.Tokens.{moved}
use Rattle.sv_macro.specs.Macros.{Macros, defined, parts_of}
use Rattle.sv_preproc.specs.Runs.{expands, start, end_token, Comes}
use Rattle.sv_preproc.specs.declared.settings.Define.{Define}
use Rattle.sv_preproc.specs.declared.settings.Settings.{Settings}
use Rattle.sv_preproc.specs.Machine.{machine}
use Rattle.sv_preproc.specs.Searches.{finished}
use Rattle.sv_preproc.proofs.Through.{Keeps, through}
use Rattle.sv_preproc.proofs.KeptItems.{Steady}
use Rattle.sv_preproc.proofs.KeptBodies.{MacrosKeep, defined_keeps, parts_keep}
use Rattle.sv_preproc.proofs.KeptStates.{StateKeeps, MachineKeeps}
use Rattle.sv_preproc.proofs.KeptSteps.{move_keeps, opened_keeps}

module _ (P : Token → Type 0) where
  -- the macros of the command line
  command_keeps : (defines : List Define) (macros : Macros) → MacrosKeep P macros → All (λ d. All P d.body) defines →
      MacrosKeep P (fold (λ others d. defined others d.name (record { arity = None; parts = parts_of [] d.body; busy = false })) macros defines)
  command_keeps [] macros k all = k
  command_keeps (d ∷ ds) macros k all =
      command_keeps ds (defined macros d.name (record { arity = None; parts = parts_of [] d.body; busy = false }))
      (defined_keeps P macros d.name _ k (parts_keep P [] d.body (All-head (λ d. All P d.body) d ds all))) (All-tail (λ d. All P d.body) d ds all)

  start_keeps : (set : Settings) → All (λ d. All P d.body) set.defines → StateKeeps P (start set)
  start_keeps set all = record {
    comes = All-nil _;
    stands = command_keeps set.defines (λ _. None) (λ name. tt) all;
    gives = All-nil P;
    few = omega arith;
    within = omega arith;
  }

  abbrev keeping : Keeps
  keeping = record { going = MachineKeeps P; waiting = λ search m. MachineKeeps P m; finished = StateKeeps P; broken = λ r names. Unit {0} }

  -- what a property of tokens that lexing and moving keep says of the tokens that are delivered
  pub delivers_kept : Steady P → (set : Settings) → All (λ d. All P d.body) set.defines → (told : Option Contents) (ts : List Token) (names : List (List ℕ)) →
      (x : Comes set told (expands ts names)) → StateKeeps P x.last
  delivers_kept steady set all told ts names x =
      through keeping (λ search m held k. record { state = opened_keeps P steady search.top m.state held k.state; collects = k.collects }) (λ rule search m k. tt) (λ search m t e k. tt)
      set told (move_keeps P steady set) (machine (start set) []) (finished x.last) x.runs (record { state = start_keeps set all; collects = All-nil _ })

module _ (keeps : Token → Bool)
    (moves : (place : Place) (t : Token) → keeps t ≡ true → keeps (moved place t) ≡ true)
    (lexed : (file : ℕ) (bytes : List ℕ) → All (λ t. keeps t ≡ true) (tokens_of file bytes)) where
  pub kept : (set : Settings) → All (λ d. All (λ t. keeps t ≡ true) d.body) set.defines → (told : Option Contents) (front : List Token) (place : Place) (names : List (List ℕ)) →
      Comes set told (expands (front ++ end_token place ∷ []) names) → All (λ t. keeps t ≡ true) front
  kept set all told front place names c =
      let d = delivers_kept (λ t. keeps t ≡ true) (record { moves = moves; lexed = lexed }) set all told (front ++ end_token place ∷ []) names c in
      All-same (λ t. keeps t ≡ true) front c.last.delivered (same_from_push front c.last.delivered (end_token place) (end_token c.last.ending) c.tokens).0 d.gives

-- each token was spent but for the end
pub few-tokens : (set : Settings) (told : Option Contents) (ts : List Token) (names : List (List ℕ)) → Comes set told (expands ts names) → length ts ≤ 2 ^ 22 + 1
few-tokens set told ts names c =
    let d = delivers_kept (λ t. Unit {0}) (record { moves = λ place t k. tt; lexed = λ file bytes k t l. tt }) set (λ k d l i t m. tt) told ts names c in
    omega (arith, ap length c.tokens, length-append c.last.delivered (end_token c.last.ending ∷ []), d.few, d.within)
