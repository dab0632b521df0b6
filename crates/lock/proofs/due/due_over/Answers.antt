use Rattle.std.proofs.Common.{◌≡◌, ◌+◌, sym, ⊎_elim}
use Rattle.lock.specs.declared.place.Place.TheVariants.{Inside, Waiting, Out, Leaving}
use Rattle.lock.specs.Distance.{anyone, is_inside, is_waiting}
use Rattle.lock.proofs.Least.{nearest_none, nearest_more, anyone_none, flags_more}
use Rattle.lock.proofs.due.due_over.Goals as goal
use Rattle.lock.proofs.due.due_over.Goals.{in-Inside, in-Waiting, in-Out}

pub loop-v-init : goal.loop-v-init
loop-v-init g c =
    let f = g.D.Distances.stands c.args.lock.now in
    (sym (anyone_none is_inside f), sym (anyone_none is_waiting f), sym (nearest_none _))

pub loop-v-preserved : goal.loop-v-preserved
loop-v-preserved g c =
    let f = g.D.Distances.stands c.args.lock.now in
    let u = g.D.Distances.distances c.args.lock.now in
    let v = c.loop-v.v in
    let i = c.loop-v.invariant in
    let flags = flags_more f v c.place_of.result c.place_of.ensures _ _ i.0 i.1 in
    let both : (c.match-place_of.inside ≡ anyone is_inside f (v + 1)) × (c.match-place_of.waiting ≡ anyone is_waiting f (v + 1)) =
    elim c.match-place_of.branch [
      | in-Inside w ↦ flags Inside w.in-Inside.is _ _ w.inside-is w.waiting-is
      | in-Waiting w ↦ flags Waiting w.in-Waiting.is _ _ w.inside-is w.waiting-is
      | in-Out w ↦ ⊎_elim (λ e. flags Out e _ _ w.inside-is w.waiting-is) (λ e. flags Leaving e _ _ w.inside-is w.waiting-is) w.in-Out.is
    ] in
    (both.0, both.1, nearest_more u v _ _ _ i.2 c.distance_of.ensures c.nearer-best.ensures)
