use Rattle.std.proofs.Common.{◌≡◌, ◌≤◌, take}
use Rattle.frame_texts.specs.Frames.{shorter}
use Rattle.typing_names.proofs.source_names.SourceNames.last_stop.Given as goal

abbrev pub invariant-loop-left : goal.invariant-loop-left
invariant-loop-left l = record {
  bound : l.left ≤ l.end;
  same : shorter l.self.tree.now l.self.names.now (take l.left l.path) ≡ shorter l.self.tree.now l.self.names.now (take l.end l.path);
}

abbrev pub decreases-loop-left : goal.decreases-loop-left
decreases-loop-left l = l.left
