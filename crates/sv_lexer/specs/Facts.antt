-- What holds of every list of raw tokens.
use Rattle.std.specs.Prelude.{◌≢◌, ◌<◌, length}
use Rattle.sv_source.specs.declared.token.Token.{Token}
use Rattle.sv_source.specs.declared.token.Kind.TheVariants.{End}

-- a token of a file: some bytes, and not the end of all files
pub record IsRaw (token : Token) : Type 0 where
  pub some : 0 < length token.text
  pub no_end : token.kind ≢ End
