use Rattle.std.proofs.Common.{◌≡◌, refl, sym, ap, ◌∙◌}
use Rattle.zst_stream.specs.Reading.{ruling, wait, refuse, more, last}
use Rattle.zst_reader.specs.Window.{items}
use Rattle.zst_reader.proofs.StandsForLemmas.{at_front, has_failed, has_ended, waits, refused, finds_more, finds_last}
use Rattle.zst_reader.proofs.reader.Reader.find.Goals as goal

pub returns-in-Failed-clause-finds : goal.returns-in-Failed-clause-finds
returns-in-Failed-clause-finds c = λ text handed stands. has_failed c.args.self.now text handed c.in-Failed.fault c.in-Failed.is stands

pub returns-in-Ended-clause-finds : goal.returns-in-Ended-clause-finds
returns-in-Ended-clause-finds c = λ text handed stands. has_ended c.args.self.now text handed c.in-Ended.is stands

pub returns-in-Wait-clause-finds : goal.returns-in-Wait-clause-finds
returns-in-Wait-clause-finds c = λ text handed stands.
    let old = c.args.self.now in
    let mid = c.judge.new.self in
    let e = c.settle.ensures in
    let s = c.judge.ensures.same in
    let f = at_front old mid text handed (s.taken ∙ e.taken) (record { place = s.place ∙ e.place; handed = s.handed ∙ e.handed; mark = s.mark ∙ e.mark })
    (ap items s.window ∙ e.items) stands in
    let t = f.stands in
    let before = t.inner.before in
    let live = s.mark ∙ e.mark ∙ c.in-Open.is in
    let is : ruling before (items mid.window) ≡ wait = sym (c.in-Wait.ensures.judged.rules before f.place) in
    waits mid text handed t live (ap (ruling before) f.kept ∙ is)

pub returns-in-Refuse-clause-finds : goal.returns-in-Refuse-clause-finds
returns-in-Refuse-clause-finds c = λ text handed stands.
    let old = c.args.self.now in
    let mid = c.judge.new.self in
    let e = c.settle.ensures in
    let s = c.judge.ensures.same in
    let f = at_front old mid text handed (s.taken ∙ e.taken) (record { place = s.place ∙ e.place; handed = s.handed ∙ e.handed; mark = s.mark ∙ e.mark })
    (ap items s.window ∙ e.items) stands in
    let t = f.stands in
    let before = t.inner.before in
    let live = s.mark ∙ e.mark ∙ c.in-Open.is in
    let is : ruling before (items mid.window) ≡ refuse c.in-Refuse.fault = sym (c.in-Refuse.ensures.judged.rules before f.place) in
    refused mid _ text handed c.in-Refuse.fault t live (ap (ruling before) f.kept ∙ is) refl refl refl refl

pub returns-in-More-clause-finds : goal.returns-in-More-clause-finds
returns-in-More-clause-finds c = λ text handed stands.
    let old = c.args.self.now in
    let mid = c.judge.new.self in
    let e = c.settle.ensures in
    let s = c.judge.ensures.same in
    let f = at_front old mid text handed (s.taken ∙ e.taken) (record { place = s.place ∙ e.place; handed = s.handed ∙ e.handed; mark = s.mark ∙ e.mark })
    (ap items s.window ∙ e.items) stands in
    let t = f.stands in
    let before = t.inner.before in
    let live = s.mark ∙ e.mark ∙ c.in-Open.is in
    let new = c.advance-in-More.new.self in
    let a = c.advance-in-More.ensures in
    let covers = c.in-More.ensures.judged.fits in
    let is : ruling before (items mid.window) ≡ more mid.head = sym (c.in-More.ensures.judged.rules before f.place) in
    rw (s.place, s.handed) at (finds_more mid new text handed mid.head t live is a.head
    (record {
      settled = f.kept;
      within = covers.within;
      taken = a.taken;
      window = a.window;
      counts = record { pushed = a.counts.pushed; handed = a.counts.handed; mark = a.counts.mark };
      at = ap (λ p. p.at) a.next ∙ covers.at;
      place = rw a.next (c.in-More.ensures.judged.leads before f.place);
    }))

pub returns-in-Last-clause-finds : goal.returns-in-Last-clause-finds
returns-in-Last-clause-finds c = λ text handed stands.
    let old = c.args.self.now in
    let mid = c.judge.new.self in
    let e = c.settle.ensures in
    let s = c.judge.ensures.same in
    let f = at_front old mid text handed (s.taken ∙ e.taken) (record { place = s.place ∙ e.place; handed = s.handed ∙ e.handed; mark = s.mark ∙ e.mark })
    (ap items s.window ∙ e.items) stands in
    let t = f.stands in
    let before = t.inner.before in
    let live = s.mark ∙ e.mark ∙ c.in-Open.is in
    let new = c.advance.new.self in
    let a = c.advance.ensures in
    let covers = c.in-Last.ensures.judged.fits.0 in
    let is : ruling before (items mid.window) ≡ last mid.head = sym (c.in-Last.ensures.judged.rules before f.place) in
    rw (s.place, s.handed) at (finds_last mid new text handed mid.head t live is a.head c.in-Last.ensures.judged.fits.1
    (record {
      settled = f.kept;
      within = covers.within;
      taken = a.taken;
      window = a.window;
      counts = record { pushed = a.counts.pushed; handed = a.counts.handed; mark = a.counts.mark };
      at = ap (λ p. p.at) a.next ∙ covers.at;
      place = rw a.next (c.in-Last.ensures.judged.leads before f.place);
    }))
