use Rattle.path_laws.proofs.Types.{text-plain, declared-plain}
use Rattle.path_laws.proofs.bases_are_plain.Goals as goal

pub returns : goal.returns
returns c = record {
  text = λ k x fs f p h. text-plain x k p fs f h;
  declared = λ k t u ds fs p h. declared-plain k t ds p fs u h;
}
