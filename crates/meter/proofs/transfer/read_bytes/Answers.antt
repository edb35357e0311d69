use Rattle.std.proofs.Common.{◌≡◌, ◌^◌, ◌<◌, min, length, take, ap, ◌∙◌, subst, arith, take_all}
use Rattle.std.proofs.lemmas.Result.{err_from_is_err_and}
use Rattle.chip.specs.Registers.{number}
use Rattle.meter.proofs.transfer.read_bytes.Goals as goal

pub returns-in_err-read : goal.returns-in_err-read
returns-in_err-read g c =
    let p = err_from_is_err_and c.from_residual.result c.from_residual.ensures.1 in
    rw (p.1, p.2) c.in_err-read.ensures.went

pub returns : goal.returns
returns g c =
    let bytes = c.read.new.bytes in
    let long : length bytes ≡ length c.args.bytes.now = c.read.auto.bytes in
    let whole : min (length bytes) 8 ≡ length c.args.bytes.now = omega arith in
    record {
      bytes = bytes;
      went = c.in_ok-read.ensures.went;
      is = c.take.ensures.value ∙ ap (λ x. number (take (min (length bytes) 8) x)) c.new-cursor.ensures ∙ ap number (take_all (min (length bytes) 8) bytes (omega arith));
      bound = subst (λ k. c.take.result < 256 ^ k) whole c.take.ensures.bound;
    }
