-- An expansion delivers the end of all files last.
use Rattle.std.proofs.Common.{◌≡◌, ℕ, List, [], ◌∷◌, ◌++◌, Option}
use Rattle.sv_source.specs.Loading.{Contents}
use Rattle.sv_source.specs.declared.token.Place.{Place}
use Rattle.sv_source.specs.declared.token.Token.{Token}
use Rattle.sv_preproc.specs.Runs.{expands, end_token, Comes}
use Rattle.sv_preproc.specs.declared.settings.Settings.{Settings}

pub ends-with-end : (set : Settings) (told : Option Contents) (ts : List Token) (names : List (List ℕ)) → Comes set told (expands ts names) →
    (front : List Token) × (place : Place) × (ts ≡ front ++ end_token place ∷ [])
ends-with-end set told ts names c = (c.last.delivered, c.last.ending, c.tokens)
