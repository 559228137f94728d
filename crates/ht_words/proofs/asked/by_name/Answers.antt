-- A command asks for what its row says, made of the values of its options.
use Rattle.std.proofs.Common.{map, rules, string_bytes}
use Rattle.ht_words.specs.declared.asked.Asked.TheVariants.{Detect, Rx, Soft, Many, Channel, LegacyChannel, LegacyRx}
use Rattle.ht_words.specs.declared.setting.Setting.TheVariants.{Workers, Window, Seed, Noise}
use Rattle.ht_words.specs.Words.{are_accepted, for_channel, for_workers, value_of}
use Rattle.ht_words.proofs.Refusals.{reads_made}
use Rattle.ht_words.proofs.asked.by_name.Goals as goal

pub returns-in-detect : goal.returns-in-detect
returns-in-detect c =
    let texts = map string_bytes c.args.words.now in
    rw c.in-detect.is
    (reads_made (are_accepted for_workers texts) (value_of texts Workers, value_of texts Window) (λ both. Detect both.0 both.1)
    _ (λ both made is. search rules) c.crew.result c.map.result c.crew.ensures c.map.ensures.cases)

pub returns-in-rx : goal.returns-in-rx
returns-in-rx c =
    let texts = map string_bytes c.args.words.now in
    rw c.in-rx.is
    (reads_made (are_accepted for_workers texts) (value_of texts Workers, value_of texts Window) (λ both. Rx both.0 both.1)
    _ (λ both made is. search rules) c.crew-in-rx.result c.map-in-rx.result c.crew-in-rx.ensures c.map-in-rx.ensures.cases)

pub returns-in-soft : goal.returns-in-soft
returns-in-soft c =
    let texts = map string_bytes c.args.words.now in
    rw c.in-soft.is
    (reads_made (are_accepted for_workers texts) (value_of texts Workers, value_of texts Window) (λ both. Soft both.0 both.1)
    _ (λ both made is. search rules) c.crew-in-soft.result c.map-in-soft.result c.crew-in-soft.ensures c.map-in-soft.ensures.cases)

pub returns-in-many : goal.returns-in-many
returns-in-many c =
    let texts = map string_bytes c.args.words.now in
    rw c.in-many.is
    (reads_made (are_accepted for_workers texts) (value_of texts Workers, value_of texts Window) (λ both. Many both.0 both.1)
    _ (λ both made is. search rules) c.crew-in-many.result c.map-in-many.result c.crew-in-many.ensures c.map-in-many.ensures.cases)

pub returns-in-channel : goal.returns-in-channel
returns-in-channel c =
    let texts = map string_bytes c.args.words.now in
    rw c.in-channel.is
    (reads_made (are_accepted for_channel texts) (value_of texts Seed, value_of texts Noise) (λ both. Channel both.0 both.1)
    _ (λ both made is. search rules) c.channel.result c.map-in-channel.result c.channel.ensures c.map-in-channel.ensures.cases)

pub returns-in-lchannel : goal.returns-in-lchannel
returns-in-lchannel c =
    let texts = map string_bytes c.args.words.now in
    rw c.in-lchannel.is
    (reads_made (are_accepted for_channel texts) (value_of texts Seed, value_of texts Noise) (λ both. LegacyChannel both.0 both.1)
    _ (λ both made is. search rules) c.channel-in-lchannel.result c.map-in-lchannel.result c.channel-in-lchannel.ensures c.map-in-lchannel.ensures.cases)

pub returns-in-lrx : goal.returns-in-lrx
returns-in-lrx c =
    let texts = map string_bytes c.args.words.now in
    rw c.in-lrx.is
    (reads_made (are_accepted for_workers texts) (value_of texts Workers, value_of texts Window) (λ both. LegacyRx both.0 both.1)
    _ (λ both made is. search rules) c.crew-in-lrx.result c.map-in-lrx.result c.crew-in-lrx.ensures c.map-in-lrx.ensures.cases)
