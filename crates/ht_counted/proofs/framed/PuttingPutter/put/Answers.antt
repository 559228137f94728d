use Rattle.std.proofs.Common.{refl}
use Rattle.ht_fields.proofs.Putting.{on_err, on_err_then, part_first, part_next}
use Rattle.ht_counted.specs.Framed.{front_octets}
use Rattle.ht_counted.proofs.FrameRoutes.{frame_put}
use Rattle.ht_counted.proofs.framed.PuttingPutter.put.Goals as goal

pub returns-in_err-put_front-clause-part : goal.returns-in_err-put_front-clause-part
returns-in_err-put_front-clause-part g c =
    let h = g.F.Framed.framing in
    let v = c.args.frame.now in
    on_err _ _ (part_first _ _ (front_octets h v) (front_octets h v) (h.parts v).octets _ refl (frame_put h v (h.parts v).octets refl)
    c.in_err-put_front.ensures.part)

pub returns-clause-part : goal.returns-clause-part
returns-clause-part g c =
    let h = g.F.Framed.framing in
    let v = c.args.frame.now in
    on_err_then _ _ _ (part_next _ _ _ (front_octets h v) c.octets.result.now _ (frame_put h v c.octets.result.now c.octets.ensures)
    c.in_ok-put_front.ensures.grown) c.put.ensures.part
