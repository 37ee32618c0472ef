-- From the tokens of an expansion to the request, and to the sinks.
use Rattle.std.proofs.Common.{◌≡◌, ◌≤◌, refl, sym, ap, subst, ℕ, length, List, Option, Result, Ok, Err}
use Rattle.sv_source.specs.Faults.{NotRaised}
use Rattle.sv_source.specs.Loading.{Contents}
use Rattle.sv_source.specs.declared.token.Token.{Token}
use Rattle.sv_source.specs.declared.text.Text.{Text}
use Rattle.sv_source.specs.declared.refusal.Refusal.{Refusal}
use Rattle.sv_source.specs.Putting.{appended, Gains, GainsFront, PutCause}
use Rattle.sv_source.specs.declared.sink.Put.{Put}
use Rattle.sv_source.specs.declared.sink.Put.TheVariants.{Ok as PutOk, Failed}
use Rattle.command_line.specs.declared.words.Asked.{Asked}
use Rattle.sv2v_top.specs.declared.run.Stop.{Stop}
use Rattle.sv2v_top.specs.declared.run.Stop.TheVariants as S
use Rattle.sv2v_top.specs.declared.status.Status.TheVariants.{SinkFault}
use Rattle.sv2v_top.specs.Endings.{Says, said, unsaid}
use Rattle.sv2v_top.specs.Headline.{ExpandsTo, file_of, TokensGive, AskedGives, Cause, in_tokens}
use Rattle.sv2v_top.specs.Translation.{Breaks}
use Rattle.sv2v_top.proofs.Listed.{cause-listed}

-- a refusal that has a cause, in the file of its place
pub from-cause : (request : Asked) → 1 ≤ length request.settings.files → (told : Option Contents) (before now : ℕ) (names : List (List ℕ)) (r : Refusal) (stop : Stop)
    → stop ≡ S.Refused (file_of names r.place) r → Cause request told names r → NotRaised before now → AskedGives request told before now (Err stop)
from-cause request some told before now names r stop is cause calm =
    subst (λ (s : Stop). AskedGives request told before now (Err s)) (sym is)
    (record { names = names; is_path = refl; listed = cause-listed request told names r some cause; cause = cause }, calm)

pub from-tokens : (request : Asked) → 1 ≤ length request.settings.files → (told : Option Contents) (before now : ℕ) (tokens : List Token) (names : List (List ℕ)) (result : Result Text Stop)
    → ExpandsTo request told tokens names → NotRaised before now → TokensGive request.top tokens names result → AskedGives request told before now result
from-tokens request some told before now tokens names (Ok text) x calm g = record { tokens = tokens; names = names; expansion = x; translates = g }
from-tokens request some told before now tokens names (Err S.Usage) x calm g = g
from-tokens request some told before now tokens names (Err S.Memory) x calm g = tt
from-tokens request some told before now tokens names (Err (S.FileFault path)) x calm g = absurd g
from-tokens request some told before now tokens names (Err (S.Refused path refusal)) x calm g =
    from-cause request some told before now names refusal (S.Refused path refusal) (ap (λ (p : List ℕ). S.Refused p refusal) g.0) (in_tokens tokens x g.1) calm

-- a refusal of the tokens, in the file of its place
pub refused-gives : (top : List ℕ) (tokens : List Token) (names : List (List ℕ)) (r : Refusal) (stop : Stop)
    → Breaks top tokens r → stop ≡ S.Refused (file_of names r.place) r → TokensGive top tokens names (Err stop)
refused-gives top tokens names r stop b is = subst (λ (s : Stop). TokensGive top tokens names (Err s)) (sym is) (refl, b)

-- the line of a write fault, put on the error stream
pub fault-said : {b a : Option (List ℕ)} → {fb fa : ℕ} → {line : List ℕ} → (result : Put)
    → Gains b a line result → PutCause result fb fa
    → Says (record { before = b; after = a; faults_before = fb; faults_after = fa }) line SinkFault SinkFault
fault-said PutOk g c = said g refl
fault-said Failed g c = unsaid (record { front = g; rose = c }) refl

-- what a sink gained, by equal bytes
pub took-same : (b a : Option (List ℕ)) → {bytes same : List ℕ} → bytes ≡ same → a ≡ appended b bytes → a ≡ appended b same
took-same b a e g = subst (λ (xs : List ℕ). a ≡ appended b xs) e g

pub front-same : (b a : Option (List ℕ)) → {bytes same : List ℕ} → bytes ≡ same → GainsFront b a bytes → GainsFront b a same
front-same b a e g = subst (λ (xs : List ℕ). GainsFront b a xs) e g
