use Rattle.fc_objects.proofs.reports.report_refusal.Goals as goal

pub returns-in-Some : goal.returns-in-Some
returns-in-Some c = λ view. rw (c.in-Lsfcmap.is, c.in-Some.is) (c.missing_mapping.ensures view)

pub returns-in-Some-group : goal.returns-in-Some-group
returns-in-Some-group c = λ view. rw (c.in-Lsfcconsistgrp.is, c.in-Some-group.is) (c.missing_group.ensures view)

pub returns-in-Lsfcmapprogress : goal.returns-in-Lsfcmapprogress
returns-in-Lsfcmapprogress c = λ view. rw c.in-Lsfcmapprogress.is (c.missing_mapping-in-Lsfcmapprogress.ensures view)

pub returns-in-Lsfcmapdependentmaps : goal.returns-in-Lsfcmapdependentmaps
returns-in-Lsfcmapdependentmaps c = λ view. rw c.in-Lsfcmapdependentmaps.is (c.missing_mapping-in-Lsfcmapdependentmaps.ensures view)
