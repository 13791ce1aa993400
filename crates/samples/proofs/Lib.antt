mod Cases
mod Sounds
mod FiveFlows
mod RingFlows
