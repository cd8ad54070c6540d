-- What closures and flows keep of their searches.
use Rattle.std.specs.Prelude.{◌≡◌, ℕ, ◌<◌, ◌≤◌, ◌^◌, length}
use Rattle.graph_flow.specs.declared.closure.Closure.TheInside.{Inside}
use Rattle.graph_flow.specs.Marks.{AreSteps, depth_of, mark_at}

-- the search knows how it came to each node, and has room for all of them in its queue
pub record IsKeptClosure (c : Inside) : Type 0 where
  pub steps : AreSteps c.search.marks.items
  pub shallow : (node : ℕ) →
      depth_of (mark_at c.search.marks.items node) ≤ length c.search.marks.items
  pub queue : length c.search.queue.items ≡ length c.search.marks.items
  pub few : length c.search.marks.items < 2 ^ 32
