mod LiveFaults
