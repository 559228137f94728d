use Rattle.std.proofs.Common.{map, string_bytes, refl}
use Rattle.std.proofs.lemmas.Result.{err_from_is_err_and}
use Rattle.ht_words.specs.declared.setting.Setting.TheVariants.{Workers, Window, Seed, Noise, Frames, Mcs, Bandwidth, Length}
use Rattle.ht_words.specs.Words.{demo_in, for_demo}
use Rattle.ht_words.proofs.Refusals.{refuses_form, refuses_value}
use Rattle.ht_words.proofs.asked.demo.Goals as goal

pub returns-in_err-accept : goal.returns-in_err-accept
returns-in_err-accept c =
    let texts = map string_bytes c.args.words.now in
    refuses_form for_demo texts (demo_in texts) (err_from_is_err_and c.from_residual.result c.from_residual.ensures.1) c.in_err-accept.ensures.refused

pub returns-in_err-seed : goal.returns-in_err-seed
returns-in_err-seed c =
    let texts = map string_bytes c.args.words.now in
    refuses_value for_demo texts (demo_in texts) (err_from_is_err_and c.from_residual-in_err-seed.result c.from_residual-in_err-seed.ensures.1) 0 Seed refl
    c.in_err-seed.ensures.refused

pub returns-in_err-noise : goal.returns-in_err-noise
returns-in_err-noise c =
    let texts = map string_bytes c.args.words.now in
    refuses_value for_demo texts (demo_in texts) (err_from_is_err_and c.from_residual-in_err-noise.result c.from_residual-in_err-noise.ensures.1) 1 Noise refl
    c.in_err-noise.ensures.refused

pub returns-in_err-frames : goal.returns-in_err-frames
returns-in_err-frames c =
    let texts = map string_bytes c.args.words.now in
    refuses_value for_demo texts (demo_in texts)
    (err_from_is_err_and c.from_residual-in_err-frames.result c.from_residual-in_err-frames.ensures.1) 2 Frames refl
    c.in_err-frames.ensures.refused

pub returns-in_err-mcs : goal.returns-in_err-mcs
returns-in_err-mcs c =
    let texts = map string_bytes c.args.words.now in
    refuses_value for_demo texts (demo_in texts) (err_from_is_err_and c.from_residual-in_err-mcs.result c.from_residual-in_err-mcs.ensures.1) 3 Mcs refl
    c.in_err-mcs.ensures.refused

pub returns-in_err-bandwidth : goal.returns-in_err-bandwidth
returns-in_err-bandwidth c =
    let texts = map string_bytes c.args.words.now in
    refuses_value for_demo texts (demo_in texts)
    (err_from_is_err_and c.from_residual-in_err-bandwidth.result c.from_residual-in_err-bandwidth.ensures.1) 4 Bandwidth refl
    c.in_err-bandwidth.ensures.refused

pub returns-in_err-length : goal.returns-in_err-length
returns-in_err-length c =
    let texts = map string_bytes c.args.words.now in
    refuses_value for_demo texts (demo_in texts)
    (err_from_is_err_and c.from_residual-in_err-length.result c.from_residual-in_err-length.ensures.1) 5 Length refl
    c.in_err-length.ensures.refused

pub returns-in_err-workers : goal.returns-in_err-workers
returns-in_err-workers c =
    let texts = map string_bytes c.args.words.now in
    refuses_value for_demo texts (demo_in texts)
    (err_from_is_err_and c.from_residual-in_err-workers.result c.from_residual-in_err-workers.ensures.1) 6 Workers refl
    c.in_err-workers.ensures.refused

pub returns-in_err-window : goal.returns-in_err-window
returns-in_err-window c =
    let texts = map string_bytes c.args.words.now in
    refuses_value for_demo texts (demo_in texts)
    (err_from_is_err_and c.from_residual-in_err-window.result c.from_residual-in_err-window.ensures.1) 7 Window refl
    c.in_err-window.ensures.refused
