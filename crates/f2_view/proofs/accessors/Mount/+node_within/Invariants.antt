use Rattle.f2_view.proofs.accessors.Mount.+node_within.Given as goal

-- proposed from what the function passes where it calls itself
abbrev pub decreases-node_within : goal.decreases-node_within
decreases-node_within g l = l.steps
