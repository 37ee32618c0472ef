-- Bytes written to a stream that may tell what it has.
use Rattle.std.proofs.Common.{◌≡◌, ℕ, List, [], ◌++◌, take, Option, Some, None, sym, ap, ◌∙◌, arith, append_assoc}
use Rattle.std.proofs.lemmas.Grind.{common_steps}
use Rattle.std.specs.Io.KnownBytes.{Appends, Keeps}
use Rattle.sv_source.specs.declared.sink.Put.TheVariants.{Ok, Failed}
use Rattle.sv_source.specs.Putting.{GainsKnown}

-- some way through a piece: the stream, if it told what it had, has a front of the piece behind that
abbrev pub Writing : Option (List ℕ) → Option (List ℕ) → List ℕ → List ℕ → Type 0
Writing before now piece rest = (known : List ℕ) → before ≡ Some known → (front : List ℕ) × (piece ≡ front ++ rest) × (now ≡ Some (known ++ front))

appends_known : (before after : Option (List ℕ)) (known bytes : List ℕ) → Appends before after bytes → before ≡ Some known → after ≡ Some (known ++ bytes)
appends_known None after known bytes a e = absurd (let no : None ≡ Some known = e in cc)
appends_known (Some xs) None known bytes a e = absurd a
appends_known (Some xs) (Some ys) known bytes a e =
    let same : xs ≡ known = cc in
    ap Some (a ∙ ap (λ zs. zs ++ bytes) same)

keeps_known : (before after : Option (List ℕ)) (known : List ℕ) → Keeps before after → before ≡ Some known → after ≡ Some known
keeps_known None after known a e = absurd (let no : None ≡ Some known = e in cc)
keeps_known (Some xs) None known a e = absurd a
keeps_known (Some xs) (Some ys) known a e =
    let same : xs ≡ known = cc in
    ap Some (a ∙ same)

pub writing_more : (before now after : Option (List ℕ)) (piece rest next : List ℕ) (n : ℕ) → rest ≡ take n rest ++ next → Writing before now piece rest → Appends now after (take n rest) → Writing before after piece next
writing_more before now after piece rest next n split w a known e =
    let here = w known e in (
      here.0 ++ take n rest,
      here.1 ∙ ap (λ xs. here.0 ++ xs) split ∙ sym (append_assoc here.0 (take n rest) next),
      appends_known now after (known ++ here.0) (take n rest) a here.2 ∙ ap Some (append_assoc known here.0 (take n rest)),
    )

pub writing_done : (before now : Option (List ℕ)) (piece : List ℕ) → Writing before now piece [] → GainsKnown before now piece Ok
writing_done before now piece w known e =
    let here = w known e in
    let whole : piece ≡ here.0 = grind (arith, common_steps, here.1) in
    here.2 ∙ ap (λ xs. Some (known ++ xs)) (sym whole)

pub writing_cut : (before now after : Option (List ℕ)) (piece rest : List ℕ) → Writing before now piece rest → Keeps now after → GainsKnown before after piece Failed
writing_cut before now after piece rest w k known e =
    let here = w known e in
    record { front = here.0; rest = rest; whole = here.1; gained = keeps_known now after (known ++ here.0) k here.2 }
