mod GoingBack
mod WholeVolumes
mod Taking
mod Lent
mod MadeVolumes
