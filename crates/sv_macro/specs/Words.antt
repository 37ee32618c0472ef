-- The names of directives (IEEE 1800-2017 clause 22), without their backquote.
use Rattle.std.specs.Prelude.{ℕ, List, if◌then◌else◌, codes}
use Rattle.std.specs.Str.{bytes_eq}
use Rattle.sv_macro.specs.declared.words.Condition.TheVariants.{Ifdef, Ifndef, Elsif, Else, Endif}
use Rattle.sv_macro.specs.declared.words.Word.{Word}
use Rattle.sv_macro.specs.declared.words.Word.TheVariants.{Branch, Define, Undef, Include, Alone, NetType, Timescale, Unsupported, Use}

-- the directives that select branches, as what they say
abbrev pub selecting : List ℕ → Word → Word
selecting name other =
    if bytes_eq name (codes "ifdef") then Branch Ifdef
    else if bytes_eq name (codes "ifndef") then Branch Ifndef
    else if bytes_eq name (codes "elsif") then Branch Elsif
    else if bytes_eq name (codes "else") then Branch Else
    else if bytes_eq name (codes "endif") then Branch Endif
    else other

-- those that have an effect, or are dropped with what belongs to them
abbrev pub supported : List ℕ → Word → Word
supported name other =
    if bytes_eq name (codes "define") then Define
    else if bytes_eq name (codes "undef") then Undef
    else if bytes_eq name (codes "include") then Include
    else if bytes_eq name (codes "default_nettype") then NetType
    else if bytes_eq name (codes "timescale") then Timescale
    else other

-- those that are dropped alone
abbrev pub without_effect : List ℕ → Word → Word
without_effect name other =
    if bytes_eq name (codes "resetall") then Alone
    else if bytes_eq name (codes "celldefine") then Alone
    else if bytes_eq name (codes "endcelldefine") then Alone
    else other

-- those that aren't supported
abbrev pub unsupported : List ℕ → Word → Word
unsupported name other =
    if bytes_eq name (codes "line") then Unsupported
    else if bytes_eq name (codes "pragma") then Unsupported
    else if bytes_eq name (codes "begin_keywords") then Unsupported
    else if bytes_eq name (codes "end_keywords") then Unsupported
    else if bytes_eq name (codes "undefineall") then Unsupported
    else other

abbrev pub unsupported_too : List ℕ → Word → Word
unsupported_too name other =
    if bytes_eq name (codes "unconnected_drive") then Unsupported
    else if bytes_eq name (codes "nounconnected_drive") then Unsupported
    else if bytes_eq name (codes "__FILE__") then Unsupported
    else if bytes_eq name (codes "__LINE__") then Unsupported
    else other

-- what a name says behind a backquote: every other name uses a macro
abbrev pub word_of : List ℕ → Word
word_of name = selecting name (supported name (without_effect name (unsupported name (unsupported_too name Use))))
