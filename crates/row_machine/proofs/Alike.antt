-- Machines that are alike are equal.
use Rattle.std.proofs.Common.{◌≡◌, List, [], ◌∷◌, refl}
use Rattle.std.specs.List.{AllZip}
use Rattle.row_machine.specs.Machine.{Process, EdgeProcess, Machine}
use Rattle.row_machine.specs.Alike.{AlikeProcesses, AlikeEdges, Alike}

pub same_process : (p t : Process) → AlikeProcesses p t → p ≡ t
same_process p t a = λ i. record {
  from_zero = a.from_zero i;
  waits_for = a.waits_for i;
  reads = a.reads i;
  writes = a.writes i;
  assigns = λ v q. a.assigns v q i;
}

pub same_edge : (p t : EdgeProcess) → AlikeEdges p t → p ≡ t
same_edge p t a = λ i. record { writes = a.writes i; runs = λ v w. a.runs v w i; updates = λ v q. a.updates v q i }

same_list : {A : Type 0} (R : A → A → Type 0) → ((x y : A) → R x y → x ≡ y) → (xs ys : List A) → AllZip R xs ys → xs ≡ ys
same_list R same [] [] h = refl
same_list R same [] (y ∷ ys) h = absurd h
same_list R same (x ∷ xs) [] h = absurd h
same_list R same (x ∷ xs) (y ∷ ys) h = λ i. same x y h.0 i ∷ same_list R same xs ys h.1 i

pub same_machine : (d e : Machine) → Alike d e → d ≡ e
same_machine d e a = λ i. record {
  combs = same_list AlikeProcesses same_process d.combs e.combs a.combs i;
  edges = same_list AlikeEdges same_edge d.edges e.edges a.edges i;
  inputs = a.inputs i;
  initial = λ q. a.initial q i;
  start = λ q. a.start q i;
}
